use Rattle.text.specs.Text.{chars}
use Rattle.show.proofs.print_refusal.Goals as goal

pub returns : goal.returns
unfolding chars
returns c = rw c.from.ensures at c.print_numbered.ensures
