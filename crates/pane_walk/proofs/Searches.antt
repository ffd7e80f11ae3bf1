-- Closest and miss after a search for positions: how they go on.
use mathlib.Core.List.{List}
use mathlib.Core.Path.{◌≡◌, sym, ap, ◌∙◌, subst}
use native.Mathlib.Omega.{arith}
use Prim.Native.Nat.{ℕ, ◌≤◌}
use lib.Ieee.{Float}
use lib.ListN.{length}
use Rattle.causes.specs.declared.Refusal.{Refusal as Cause}
use Rattle.causes.specs.Refusal.{cause_number}
use Rattle.ray.specs.declared.Ray.{Ray}
use Rattle.walk.specs.Step as Step
use Rattle.walk.specs.Queries.{Found}
use Rattle.record_shape.specs.Record.{node_count}
use Rattle.walk.specs.WordStep.{SteppedWords, seek_words}
use Rattle.walk_record.specs.WalkRay.{WalkRay}
use Rattle.advance.specs.declared.Walk.{Walk}
use Rattle.advance.specs.declared.Turn.{Turn}
use Rattle.advance.specs.declared.Answer.{Answer}
use Rattle.advance.specs.declared.Answer.TheVariants.{Tested, Position, Done, Refused as AnswerRefused}
use Rattle.advance.specs.Turn.{walker_of, seeking, step_answer, turned}
use Rattle.advance.proofs.Seeks.{seeking_from}
use Rattle.query.specs.Ending.{ending}
use Rattle.query.proofs.Leads.{Sought, seek_sought}
use Rattle.query.proofs.Begins.{steady}
use Rattle.pane_walk.proofs.Queries.{Reacts, Ends, Setting, words_in, LeadsIn, GoesIn}

-- ---- after a search

-- a search of at most so many tests from walk v, which has no position in hand, gave t and a stack
pub record AfterSearch (S : Setting) (react : Reacts) (goal : Ends) (ray : Ray) (v : Walk) (stack : List ℕ) (x : Found Float) (t : Turn)
    (stack₁ : List ℕ) : Type 0 where
  pub leads : LeadsIn S react goal ray v stack x
  pub none : v.positions.bits ≤ 0
  pub most : ℕ
  pub search : turned ray S.octant t stack₁
      ≡ seek_words (node_count S.bytes) (words_in S) most (length S.indices) (walker_of ray S.octant v stack)

-- a search by the numbers of walk v is one from v; u is the walk that it gave, read number by number
pub after_search : {S : Setting} {react : Reacts} {goal : Ends} {ray : Ray} {v : Walk} {stack : List ℕ} {x : Found Float} (most : ℕ)
    → LeadsIn S react goal ray v stack x → v.positions.bits ≤ 0 → (u : Walk) (t : Turn) → u ≡ t.walk → (stack₁ : List ℕ) (n : ℕ)
    → n ≡ length S.indices
    → turned ray S.octant t stack₁ ≡ seek_words (node_count S.bytes) (words_in S) most n
    (walker_of ray S.octant (seeking v.tests v.positions.base v.current.base v.current.bits v.depth) stack)
    → AfterSearch S react goal ray v stack x (record { answer = t.answer; walk = u }) stack₁
after_search {S = S} {ray = ray} {v = v} {stack = stack} most leads empty u t e stack₁ n f h = record {
  leads = leads;
  none = empty;
  most = most;
  search =
      ap (λ (w : Walk). turned ray S.octant (record { answer = t.answer; walk = w }) stack₁) e ∙ h
      ∙ ap (λ (k : ℕ). seek_words (node_count S.bytes) (words_in S) most k
      (walker_of ray S.octant (seeking v.tests v.positions.base v.current.base v.current.bits v.depth) stack)) f
      ∙ ap (seek_words (node_count S.bytes) (words_in S) most (length S.indices)) (seeking_from ray S.octant stack v (omega (arith, empty)));
}

module _ {S : Setting} {react : Reacts} {goal : Ends} {ray : Ray} {v : Walk} {stack : List ℕ} {x : Found Float} {t : Turn} {stack₁ : List ℕ}
    (A : AfterSearch S react goal ray v stack x t stack₁) where
  abbrev Left : Step.Answer → Type 0
  Left b = Sought (node_count S.bytes) (words_in S) (length S.indices) react (ending goal) (walker_of ray S.octant v stack) x b
      (walker_of ray S.octant t.walk stack₁)

  sought : (b : Answer) → t.answer ≡ b → Left (step_answer b)
  sought b e =
      subst (λ (a : Answer). Left (step_answer a)) e
      (subst (λ (r : SteppedWords WalkRay). Sought (node_count S.bytes) (words_in S) (length S.indices)
      react (ending goal) (walker_of ray S.octant v stack) x r.answer r.walker) (sym A.search)
      (seek_sought (steady S.gates S.bytes (length S.indices) S.sized S.fit) A.most (walker_of ray S.octant v stack) A.leads A.none))

  -- the query goes on after a test, ends with done or a refusal, and no position is reported
  pub search_tested : (u : ℕ) → t.answer ≡ Tested u → GoesIn S react goal ray v stack ray t.walk stack₁ x
  unfolding step_answer
  search_tested u e = sought (Tested u) e

  pub search_done : t.answer ≡ Done → record { noted = x; tests = t.walk.tests; ended = Step.done } ≡ ending goal
  unfolding step_answer
  search_done e = sought Done e

  pub search_refused : (f : Cause) → t.answer ≡ AnswerRefused f
      → record { noted = x; tests = t.walk.tests; ended = Step.refused (cause_number f) } ≡ ending goal
  unfolding step_answer
  search_refused f e = sought (AnswerRefused f) e

  pub search_no_position : (q : ℕ) → t.answer ≡ Position q → ⊥
  unfolding step_answer
  search_no_position q e = sought (Position q) e
