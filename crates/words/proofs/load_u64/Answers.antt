use Rattle.words.proofs.Le.{loaded}
use Rattle.words.proofs.load_u64.Goals as goal

pub returns : goal.returns
returns c = loaded 7 _ _ _ _ c.bytes_at.ensures (λ i. (c.type_inv.s i).fits) c.from_le_bytes.ensures
