use Rattle.tokengame.proofs.Told.{conflicts_hinder}
use Rattle.tokengame.proofs.conflicts.conflict.Goals as goal

pub returns : goal.returns
returns c = record { answer = c.share_a_place.ensures; law = conflicts_hinder }
