-- `Display::from` meets its contract.
use mathlib.Core.Path.{◌≡◌, refl}
use lib.Ieee.{binary64, of_bits, of_int}
use Rattle.river.specs.Replies.{no_float, display_reply}
use Rattle.river.proofs.DisplayFromResultShownRefusal.from.Goals as goal

-- the code's 0.0
zero : of_bits binary64 0 ≡ no_float
unfolding of_bits of_int
zero = refl

pub returns-in-Err : goal.returns-in-Err
unfolding display_reply
returns-in-Err c = rw (c.in-Err.is, c.code.ensures, zero)
