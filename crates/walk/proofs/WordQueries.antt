-- Queries over a walker of words: what they note, how they end and what they count is what the queries over lists give.
use mathlib.Core.Bool.{Bool, true, false, cond}
use mathlib.Core.List.{List, [], ◌∷◌}
use mathlib.Core.Path.{◌≡◌, refl, ap, ◌∙◌}
use Prim.Native.Nat.{ℕ, zero, suc}
use Rattle.walk.specs.Tests.{Tests}
use Rattle.walk.specs.Step.{Answer, tested, position, done, refused, Stepped, Walker, fresh}
use Rattle.walk.specs.Queries.{Reaction, QueryOutcome, told_all, follow, query}
use Rattle.walk.specs.WordStep.{WalkerWords, NodeWords, fresh_words, step_words, tell_words, decoded, WordsFit, tests_with, Decodes}
use Rattle.walk.specs.WordQueries.{OutcomeWords, told_all_words, follow_words, query_words, decoded_outcome}
use Rattle.walk.proofs.WordStep.{step_decoded}
use Rattle.walk.proofs.WordRuns.{step_range, tell_range, tell_decoded, fresh_range, fresh_decoded}

module _ {RayData Distance a : Type 0} (m : ℕ) (N : NodeWords RayData Distance) (ps cs : RayData → ℕ → List ℕ) (D : Decodes m N ps cs)
    (react : ℕ → RayData → a → Reaction Distance a) where
  abbrev T : Tests RayData Distance
  T = tests_with N ps cs

  pub all_range : (l : List Distance) (w : WalkerWords RayData) → WordsFit w → WordsFit (told_all_words N l w)
  all_range [] w i = i
  all_range (x ∷ l) w i = all_range l (tell_words N x w) (tell_range m N ps cs D x w i)

  all_decoded : (l : List Distance) (w : WalkerWords RayData) → decoded N (told_all_words N l w) ≡ told_all T l (decoded N w)
  all_decoded [] w = refl
  all_decoded (x ∷ l) w = all_decoded l (tell_words N x w) ∙ ap (told_all T l) (tell_decoded m N ps cs D x w)

  abbrev Same : (WalkerWords RayData → a → OutcomeWords RayData a) → (Walker RayData → a → QueryOutcome RayData a) → Type 0
  Same go rest = (u : WalkerWords RayData) (x : a) → WordsFit u → decoded_outcome N (go u x) ≡ rest (decoded N u) x

  follow_decoded : (go : WalkerWords RayData → a → OutcomeWords RayData a) (rest : Walker RayData → a → QueryOutcome RayData a) → Same go rest
      → (b : Answer) (u : WalkerWords RayData) (x : a) → WordsFit u
      → decoded_outcome N (follow_words m N react b u x go) ≡ follow m T react b (decoded N u) x rest
  follow_decoded go rest h (tested v) u x i = h u x i
  follow_decoded go rest h (position p) u x i = by (react p u.ray x) (react p u.ray x).stop
    where
      by : (r : Reaction Distance a) (t : Bool)
          → decoded_outcome N (cond t (record { walker = told_all_words N r.tells u; accumulator = r.accumulator; ended = position p })
          (go (told_all_words N r.tells u) r.accumulator))
          ≡ cond t (record { walker = told_all T r.tells (decoded N u); accumulator = r.accumulator; ended = position p })
          (rest (told_all T r.tells (decoded N u)) r.accumulator)
      by r true = ap (λ (v : Walker RayData). record { walker = v; accumulator = r.accumulator; ended = position p }) (all_decoded r.tells u)
      by r false = h (told_all_words N r.tells u) r.accumulator (all_range r.tells u i) ∙ ap (λ (v : Walker RayData). rest v r.accumulator)
          (all_decoded r.tells u)
  follow_decoded go rest h done u x i = refl
  follow_decoded go rest h (refused e) u x i = refl

  pub query_decoded : (f n : ℕ) (w : WalkerWords RayData) (x : a) → WordsFit w
      → decoded_outcome N (query_words m N react f n w x) ≡ query m T react f n (decoded N w) x
  unfolding query_words query
  query_decoded zero n w x i = refl
  query_decoded (suc f) n w x i =
      follow_decoded (query_words m N react f n) (query m T react f n) (query_decoded f n) (step_words m N n w).answer (step_words m N n w).walker x
      (step_range m N ps cs D n w i)
      ∙ ap (λ (r : Stepped RayData). follow m T react r.answer r.walker x (query m T react f n)) (step_decoded m N ps cs D n w i)

  -- from a walker just begun
  pub fresh_query : (f n : ℕ) (ray : RayData) (x : a) → T.forged ray ≡ false
      → decoded_outcome N (query_words m N react f n (fresh_words ray) x) ≡ query m T react f n (fresh ray) x
  fresh_query f n ray x h =
      query_decoded f n (fresh_words ray) x (fresh_range m N ps cs D ray) ∙ ap (λ (v : Walker RayData). query m T react f n v x)
      (fresh_decoded m N ps cs D ray h)
