-- `main` meets its contract: the loop ends, since every turn leaves less to do.
use Prim.Native.Nat.{◌-◌}
use Rattle.sizes.specs.Sizes.{input_buffer}
use Rattle.cabinet.proofs.LoopLaws.{written-less, answered_less, read-less}
use Rattle.cabinet.proofs.main.Goals as goal

pub loop-size-smaller-in-Write : goal.loop-size-smaller-in-Write
loop-size-smaller-in-Write c =
    written-less _ _ _ _ _ _ _ c.proceed-turn.ensures _ c.in-Write.is

pub loop-size-smaller-in-Read : goal.loop-size-smaller-in-Read
loop-size-smaller-in-Read c =
    read-less _ _ _ _ _ _ _ c.proceed-turn.ensures _ c.in-Read.is _ (input_buffer - c.in-Read.at) c.read_input-got.new.buffer c.read_input-got.auto.buffer c.read_input-got.ensures.0 _
    c.after_read-progress.ensures

pub loop-size-smaller : goal.loop-size-smaller
loop-size-smaller c =
    answered_less _ _ _ _ _ _ _ c.proceed-turn.ensures c.in-Answer.is
