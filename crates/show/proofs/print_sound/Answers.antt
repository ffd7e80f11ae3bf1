use Rattle.text.specs.Text.{chars}
use Rattle.show.proofs.print_sound.Goals as goal

pub returns : goal.returns
unfolding chars
returns c = c.print_numbered.ensures
