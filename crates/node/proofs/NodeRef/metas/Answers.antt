use Rattle.node.proofs.RoundTrip.{meta_word_lem}
use Rattle.node.proofs.NodeRef.metas.Goals as goal

pub returns : goal.returns
returns c = meta_word_lem c.args.self.bytes.now 0 c.load_u64.result c.load_u64.ensures
