use Rattle.pane_walk.specs.Panes.{closest_given, closest_answer}
use Rattle.pane_walk.proofs.closest.Goals as goal

pub returns-in-Ok : goal.returns-in-Ok
unfolding closest_given
returns-in-Ok g c = c.in-Ok.ensures

pub returns-in-Err : goal.returns-in-Err
unfolding closest_given closest_answer
returns-in-Err g c = c.in-Err.ensures
