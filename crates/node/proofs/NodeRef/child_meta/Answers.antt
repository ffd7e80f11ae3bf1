use mathlib.Core.Path.{sym}
use Rattle.node.proofs.RoundTrip.{metas_at}
use Rattle.node.proofs.NodeRef.child_meta.Goals as goal

pub returns : goal.returns
returns c = sym (metas_at c.args.self.bytes.now 0 c.args.child c.requires)
