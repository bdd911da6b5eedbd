-- Laws of figures laid out as numbers.
use mathlib.Core.List.{List, [], ◌∷◌, ◌++◌}
use mathlib.Core.Path.{◌≡◌, refl}
use Prim.Native.Nat.{◌*◌}
use native.Mathlib.Omega.{arith}
use lib.ListN.{length}
use Rattle.method.specs.declared.Figures.{Figures}
use Rattle.method.specs.Figures.{layout}

pub layout-append : (fs gs : List Figures) → layout (fs ++ gs) ≡ layout fs ++ layout gs
unfolding layout
layout-append [] gs = refl
layout-append (f ∷ fs) gs = rw (layout-append fs gs)

pub layout-length : (fs : List Figures) → length (layout fs) ≡ 4 * length fs
unfolding layout
layout-length [] = refl
layout-length (f ∷ fs) = omega (arith, layout-length fs)
