-- Which nodes a ray reaches, which positions it passes, and the order in which a walk lists them (01, "Walking").
use Rattle.std.specs.Prelude.{List, [], ◌∷◌, ◌++◌, ◌≡◌, ℕ, zero, suc, ◌<◌}
use Rattle.lists.specs.Counts.{count}
use Rattle.walk.specs.Tests.{Tests}

-- x is a member of a list
abbrev pub In : ℕ → List ℕ → Type 0
In x l = 0 < count x l

-- ---- what is gathered from a node and all below it

module _ {A : Type 0} (e : A) (op : A → A → A) where
  -- a function's values at the members of a list, joined
  abbrev pub joined : (ℕ → A) → List ℕ → A
  joined f [] = e
  joined f (x ∷ l) = op (f x) (joined f l)

  -- the values at v and at all that lies at most k levels below it, less one; `next` says what lies right below
  unfoldable pub gather_below : (ℕ → List ℕ) → (ℕ → A) → ℕ → ℕ → A
  gather_below next value zero v = e
  gather_below next value (suc k) v = op (value v) (joined (gather_below next value k) (next v))

-- the lists that a function gives at the members of a list, one after the other
abbrev pub flat : (ℕ → List ℕ) → List ℕ → List ℕ
flat f l = joined [] ◌++◌ f l

-- ---- reached and passed (01, "Walking")

-- Of m nodes the first is reached, and with a node v each child c that is passed in it: `Child v c` says so.
pub data ReachedBy (m : ℕ) (Child : ℕ → ℕ → Type 0) : ℕ → Type 0 where
  first : {v : ℕ} → v ≡ 0 → 0 < m → ReachedBy m Child v
  child : {v c : ℕ} → ReachedBy m Child v → Child v c → ReachedBy m Child c

-- Position p is passed: `Position v p` says so of a reached node v.
abbrev pub PassedBy : ℕ → (ℕ → ℕ → Type 0) → (ℕ → ℕ → Type 0) → ℕ → Type 0
PassedBy m Child Position p = (v : ℕ) × ReachedBy m Child v × Position v p

-- ---- a ray over a record of m nodes, by the lists that its tests give

module _ {RayData Distance : Type 0} (m : ℕ) (T : Tests RayData Distance) (ray : RayData) where
  abbrev pub ReachedIn : ℕ → Type 0
  ReachedIn = ReachedBy m (λ v c. In c (T.children ray v))

  abbrev pub PassedIn : ℕ → Type 0
  PassedIn = PassedBy m (λ v c. In c (T.children ray v)) (λ v p. In p (T.positions ray v))

  -- Node v's listing: its passed positions, then the listings of its passed children, each in the order of the tests. Levels run to m at most.
  abbrev pub listing : ℕ → List ℕ
  listing v = gather_below [] ◌++◌ (T.children ray) (T.positions ray) m v

  -- the nodes reached from node v, itself first, in the same order
  abbrev pub reached_from : ℕ → List ℕ
  reached_from v = gather_below [] ◌++◌ (T.children ray) (λ u. u ∷ []) m v
