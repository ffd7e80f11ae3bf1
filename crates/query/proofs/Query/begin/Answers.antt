use Rattle.std.proofs.Common.{◌≡◌, length, sym, ap, ◌∙◌, rules}
use Rattle.causes.specs.Refusal.{cause_number, cause_in}
use Rattle.ray.specs.declared.Ray.{Ray}
use Rattle.ray.specs.Ray.{ray_from, octant_of}
use Rattle.walk_record.specs.WalkRay.{walk_ray, forged_ray}
use Rattle.walk_record.proofs.Laws.{bytes_fit}
use Rattle.query.specs.Entry.{entry_cause}
use Rattle.query.proofs.Starts.{enters, unforged, some_nodes}
use Rattle.query.proofs.Query.begin.Goals as goal
use Rattle.query.proofs.Query.begin.Goals.{After-check_entry}

-- the cause is that of the ray that is asked for
cause : (c : After-check_entry) → let a = c.args in
    cause_in c.check_entry.result ≡ entry_cause a.fits (length a.«record».now) a.n (cause_in a.between) (ray_from a.beam)
cause c = c.check_entry.ensures ∙ ap (entry_cause c.args.fits _ _ (cause_in c.args.between)) c.new-ray.ensures

pub returns-in_err-check_entry : goal.returns-in_err-check_entry
returns-in_err-check_entry c =
    let k = (goal.at.returns-in_err-check_entry c).After-check_entry in
    let own : cause_in c.from_residual.result ≡ cause_number c.in_err-check_entry.field-0.0 = search rules in
    record { value = own ∙ sym (ap cause_in c.in_err-check_entry.was) ∙ cause k; walk = search rules }

pub returns-then-is_empty : goal.returns-then-is_empty
returns-then-is_empty c =
    let k = (goal.at.returns-then-is_empty c).After-check_entry in
    record { value = sym (ap cause_in c.in_ok-check_entry.was) ∙ cause k; walk = search rules }

pub invariant_of-bvh : goal.invariant_of-bvh
invariant_of-bvh c =
    let a = c.args in
    let z = sym (cause (goal.at.invariant_of-bvh c).After-check_entry) ∙ ap cause_in c.in_ok-check_entry.was in
    record { fit = (enters a.fits a.beam a.«record».now a.n (cause_in a.between) z).sizes }

pub invariant_of-result : goal.invariant_of-result
invariant_of-result c =
    let a = c.args in
    let z = sym (cause (goal.at.invariant_of-result c).After-check_entry) ∙ ap cause_in c.in_ok-check_entry.was in
    let same = c.new-aim.ensures.0 in
    record {
      some = some_nodes a.fits a.beam a.«record».now a.n (cause_in a.between) z (search rules);
      accepted = ap (λ (r : Ray). forged_ray (walk_ray r)) (same ∙ c.new-ray.ensures) ∙ unforged a.fits a.beam a.«record».now a.n
          (cause_in a.between) z;
      own = c.new-aim.ensures.1 ∙ c.octant.ensures ∙ ap (λ (r : Ray). octant_of r.direction) (sym same);
      fields = bytes_fit _ (λ i. (c.type_inv.record i).fits);
    }

pub returns : goal.returns
returns c =
    let k = (goal.at.returns c).After-check_entry in
    record { value = sym (ap cause_in c.in_ok-check_entry.was) ∙ cause k; walk = search rules }
