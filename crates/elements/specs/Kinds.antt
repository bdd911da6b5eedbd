-- Document 01, The table: "kind (1; 1 basin, 2 reach)"; document 02, M-100: "Add kind 3, a dam"; M-107: "kind 4 is a reach of 2 to 8 equal
-- tanks". A river is worked out by basins, reaches and dams, since each tank is a reach; what one of these kinds decides is said by `by_kind`,
-- which names every one.
use Rattle.std.specs.Prelude.{ℕ, ◌-◌, Bool, cond, ◌⊎◌, ◌≡◌, eqb, Option, Some, None}
use Rattle.elements.specs.declared.Kind.{Kind}
use Rattle.elements.specs.declared.Kind.TheVariants.{Basin, Reach, Dam, Tanks}
use Rattle.elements.specs.declared.Element.{Element}

abbrev pub basin : Option Kind
basin = Some Basin

abbrev pub reach : Option Kind
reach = Some Reach

abbrev pub dam : Option Kind
dam = Some Dam

abbrev pub tanks : Option Kind
tanks = Some Tanks

-- the byte of each kind, and 0 of none
abbrev pub byte_of : Option Kind → ℕ
byte_of (Some Basin) = 1
byte_of (Some Reach) = 2
byte_of (Some Dam) = 3
byte_of (Some Tanks) = 4
byte_of None = 0

-- the kind that a byte says; none where it is no kind
unfoldable pub kind_of : ℕ → Option Kind
kind_of byte = cond (eqb byte 1) basin (cond (eqb byte 2) reach (cond (eqb byte 3) dam (cond (eqb byte 4) tanks None)))

-- whether two are the same
unfoldable pub same_kind : Option Kind → Option Kind → Bool
same_kind one other = eqb (byte_of one) (byte_of other)

-- one thing for a basin, one for a reach, one for a dam, and one for a byte that is no kind
unfoldable pub by_kind : {A : Type 0} → Option Kind → A → A → A → A → A
by_kind (Some Basin) of_basin of_reach of_dam of_none = of_basin
by_kind (Some Reach) of_basin of_reach of_dam of_none = of_reach
by_kind (Some Dam) of_basin of_reach of_dam of_none = of_dam
by_kind (Some Tanks) of_basin of_reach of_dam of_none = of_none
by_kind None of_basin of_reach of_dam of_none = of_none

-- how many basins, and how many dams, an element of this kind is
unfoldable pub basin_of : Option Kind → ℕ
basin_of kind = by_kind kind 1 0 0 0

unfoldable pub dam_of : Option Kind → ℕ
dam_of kind = by_kind kind 0 0 1 0

-- "the count in the f field": how many tanks an element has above its last
unfoldable pub extra_tanks : Element → ℕ
extra_tanks e = cond (same_kind e.kind tanks) (e.runoff - 1) 0

-- a basin, a reach or a dam
abbrev pub IsKind : Option Kind → Type 0
IsKind kind = (kind ≡ basin) ⊎ ((kind ≡ reach) ⊎ (kind ≡ dam))
