use Rattle.rings.proofs.PeelStartLaws.{remove_rows_start}
use Rattle.rings.proofs.peel.peel.Goals as goal

pub core-ring-requires : goal.core-ring-requires
core-ring-requires c =
    record { ready = c.requires.ready; span = c.requires.span; peel_buffers = c.requires.peel_buffers }

pub remove_rows_from_the_end-requires : goal.remove_rows_from_the_end-requires
remove_rows_from_the_end-requires c =
    record {
      ready = c.requires.ready;
      row_removal = remove_rows_start _ _ _ _ _ c.requires.ready c.requires.span c.core-ring.ensures;
    }

pub returns : goal.returns
returns c = c.remove_rows_from_the_end.ensures
