-- All faults of a file by itself, as a list: the rules that it breaks, or one fault of its text.
use Rattle.std.proofs.Common.{◌≡◌, ◌∙◌, sym, ap, refl, ℕ, ◌<◌, inr, List, [], ◌∷◌, length, map, arith, Contains}
use Rattle.std.specs.Prelude.{AllPairs, ◌↔◌}
use Rattle.std.proofs.lemmas.List.{get_or-map, length-map}
use Rattle.proto_base.specs.FileFaults.{IsEarlier, at_step}
use Rattle.proto_base.specs.Least.{Precedes}
use Rattle.proto_base.specs.declared.file_fault.FileFault.{FileFault}
use Rattle.proto_base.specs.declared.limits.Limits.{Limits}
use Rattle.proto_base.specs.declared.spot.Spot.{Spot}
use Rattle.proto_file.specs.Local.{IsOwnFault, IsTextFault, of_text}
use Rattle.proto_file.proofs.OneLocal.{only_text_fault}

rule_faults : (spots : List Spot) (f : FileFault)
    → Contains (map (at_step 2) spots) f ↔ ((f.step ≡ 2) × Contains spots f.spot)
rule_faults spots f = (
  λ (k, below, is).
      let inside : k < length spots = omega (arith, below, length-map spots (at_step 2)) in
      let made = sym (get_or-map (at_step 2) spots k f.spot f inside) ∙ is in
      (ap (λ (g : FileFault). g.step) (sym made), (k, inside, ap (λ (g : FileFault). g.spot) made)),
  λ (step, (k, below, is)). (
    k,
    omega (arith, below, length-map spots (at_step 2)),
    get_or-map (at_step 2) spots k f.spot f below ∙ ap (at_step 2) is ∙ ap (λ s. at_step s f.spot) (sym step),
  ),
)

rules_in_order : (spots : List Spot) → AllPairs Precedes spots → AllPairs IsEarlier (map (at_step 2) spots)
rules_in_order spots order i j d before below =
    let inside : j < length spots = omega (arith, below, length-map spots (at_step 2)) in
    rw (
      get_or-map (at_step 2) spots i d.spot d (omega (arith, before, inside)),
      get_or-map (at_step 2) spots j d.spot d inside,
    ) (inr (refl, order i j d.spot before inside))

-- so where the spots are those of a set
pub rules_are : {S : Spot → Type 0} (spots : List Spot) (faults : List FileFault) → faults ≡ map (at_step 2) spots
    → ((x : Spot) → Contains spots x ↔ S x) → (f : FileFault) → Contains faults f ↔ ((f.step ≡ 2) × S f.spot)
rules_are spots faults is all f =
    let told = rule_faults spots f in
    rw is (
      λ h. ((told.0 h).0, (all f.spot).0 (told.0 h).1),
      λ w. told.1 (w.0, (all f.spot).1 w.1),
    )

pub rules_precede : (spots : List Spot) (faults : List FileFault) → faults ≡ map (at_step 2) spots
    → AllPairs Precedes spots → AllPairs IsEarlier faults
rules_precede spots faults is order = rw is (rules_in_order spots order)

-- the one fault of a text that is no file
pub text_fault_is : (limits : Limits) (name text : List ℕ) (fault : FileFault) (faults : List FileFault)
    → faults ≡ fault ∷ [] → IsTextFault limits text fault → (f : FileFault)
    → Contains faults f ↔ IsOwnFault limits name text f
text_fault_is limits name text fault faults one told f = rw one (
  λ (k, below, is). let same : fault ≡ f = grind arith in rw (sym same) (of_text told),
  λ own. (0, omega arith, sym (only_text_fault limits name text fault f told own)),
)
