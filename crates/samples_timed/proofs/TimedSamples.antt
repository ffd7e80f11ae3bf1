-- The table of samples of quarter hours.
use Rattle.samples_timed.specs.TimedSamples.{TimedSamples}
use Rattle.samples_timed.proofs.Tables.{tables}
use Rattle.samples_timed.proofs.Causes.{causes}
use Rattle.samples_timed.proofs.AnyHits.{any_hits}
use Rattle.samples_timed.proofs.Nodes.{nodes}
use Rattle.samples_timed.proofs.Refusals.{refusals}
use Rattle.samples_timed.proofs.Panes.{panes}
use Rattle.samples_timed.proofs.Steps.{steps}
use Rattle.samples_timed.proofs.Losses.{losses}

pub timed_samples : TimedSamples
timed_samples = record {
  tables = tables;
  causes = causes;
  any_hits = any_hits;
  nodes = nodes;
  refusals = refusals;
  panes = panes;
  steps = steps;
  losses = losses;
}
