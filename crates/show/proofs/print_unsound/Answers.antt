use Rattle.std.proofs.Common.{rules}
use Rattle.text.specs.Text.{chars}
use Rattle.show.specs.Show.{unsound_text}
use Rattle.text.proofs.Put.{put_first}
use Rattle.show.proofs.print_unsound.Goals as goal

pub returns : goal.returns
unfolding chars unsound_text
returns c = let p = put_first c.new-w.ensures c.put_bytes.ensures in search rules
