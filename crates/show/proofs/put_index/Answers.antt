use Rattle.text.specs.Text.{chars}
use Rattle.text.proofs.Put.{put_then}
use Rattle.show.proofs.put_index.Goals as goal

pub returns : goal.returns
unfolding chars
returns c = put_then c.requires c.put_byte.ensures (λ _. c.put_decimal.ensures)
