use Rattle.text.specs.Text.{chars}
use Rattle.text.proofs.Put.{put_then}
use Rattle.show.specs.Show.{indices_line}
use Rattle.show.proofs.put_indices.Goals as goal

pub returns : goal.returns
unfolding indices_line chars
returns c = put_then c.requires c.put_bytes.ensures (λ h. put_then h c.put_spaced.ensures (λ _. c.put_byte.ensures))
