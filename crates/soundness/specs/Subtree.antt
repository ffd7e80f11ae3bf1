-- Internal: the nodes below a node, and the positions of its subtree (01, "Words, bytes and bounds": a child range's node is their parent).
use Rattle.std.specs.Prelude.{◌≡◌, ℕ, zero, suc}
use Rattle.soundness.specs.Shape.{Shape, ChildOf, Holds}

-- node v lies k levels below node u: it is u itself, or its parent lies one level less below u
unfoldable pub Below : Shape → ℕ → ℕ → ℕ → Type 0
Below S zero u v = u ≡ v
Below S (suc k) u v = (p : ℕ) × ChildOf S p v × Below S k u p

-- position x stands in a leaf range of u or of a node below u
pub record HeldBelow (S : Shape) (u x : ℕ) : Type 0 where
  pub node : ℕ
  pub slot : ℕ
  pub levels : ℕ
  pub below : Below S levels u node
  pub holds : Holds S node slot x
