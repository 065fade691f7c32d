-- A source by itself is one thing: what it describes, or its faults, of which one is the first.
use Rattle.std.proofs.Common.{◌≡◌, ◌∙◌, ℕ, List, ap, arith, inl, inr, refl, sym}
use Rattle.std.specs.Prelude.{Some, ◌↔◌}
use Rattle.proto_base.specs.declared.file_fault.FileFault.{FileFault}
use Rattle.proto_base.specs.declared.kind.Kind.{Kind}
use Rattle.proto_base.specs.declared.limits.Limits.{Limits}
use Rattle.proto_tokens.proofs.Unique.{tokens_one, tokens_no_fault, file_fault_one}
use Rattle.proto_syntax.specs.Trees.{file_tree}
use Rattle.proto_tree.specs.declared.file.FileTree.{FileTree}
use Rattle.proto_syntax.proofs.Faults.{only_tree}
use Rattle.proto_syntax.proofs.Prefix.{one_fault}
use Rattle.proto_syntax.proofs.Unique.{one_kind}
use Rattle.proto_syntax.proofs.SameFiles.{same_file}
use Rattle.proto_lower.specs.Files.{lowered}
use Rattle.proto_desc.specs.declared.file.FileDesc.{FileDesc}
use Rattle.proto_base.specs.FileFaults.{IsNoLater, TellsFirst, at_step}
use Rattle.proto_base.specs.Least.{IsLeast}
use Rattle.proto_base.specs.declared.file_fault.FileError.{FileError}
use Rattle.proto_base.specs.declared.file_fault.FileError.TheVariants as errors
use Rattle.proto_base.proofs.Spots.{one_spot, same_spot}
use Rattle.proto_checks.specs.Checks.{FileBreaks}
use Rattle.proto_file.specs.Local.{Describes, IsFile, IsGrammarFault, IsLocalFault, IsOwnFault, IsTextFault, of_tokens, of_grammar, of_text, of_rules}

one_file : (limits : Limits) (text : List ℕ) (f g : FileTree) → IsFile limits text f → IsFile limits text g → f ≡ g
one_file limits text f g (ts, is, tree) (us, is', tree') =
    let other = rw (tokens_one _ text us ts is' is) at tree' in
    same_file f g (only_tree _ ts (file_tree f) (file_tree g) tree other)

-- ---- a file has no fault of the grammar

no_grammar_fault : (limits : Limits) (text : List ℕ) (f : FileTree) (place : ℕ) (kind : Kind) → IsFile limits text f
    → IsGrammarFault limits text place kind → ⊥
no_grammar_fault limits text f place kind (ts, is, tree) (us, k, is', fault, is_kind, at) =
    fault.no_file (file_tree f) (rw (tokens_one _ text ts us is is') at tree)

one_grammar_fault : (limits : Limits) (text : List ℕ) (p q : ℕ) (a b : Kind) → IsGrammarFault limits text p a
    → IsGrammarFault limits text q b
    → (p ≡ q) × (a ≡ b)
one_grammar_fault limits text p q a b (ts, j, is, fault, is_kind, at) (us, k, is', fault', is_kind', at') =
    let same : us ≡ ts = tokens_one _ text us ts is' is in
    let token : k ≡ j = one_fault _ ts k j (rw same at fault') fault in
    (cc, one_kind ts j a b is_kind (rw (same, token) at is_kind'))

-- faults of one step, place and kind are one
same_fault : (f g : FileFault) → f.step ≡ g.step → f.spot.place.offset ≡ g.spot.place.offset
    → f.spot.kind ≡ g.spot.kind → f ≡ g
same_fault f g step place kind =
    ap (λ s. at_step s f.spot) step ∙ ap (at_step g.step) (same_spot f.spot g.spot place kind)

-- ---- a text that is no file

no_text_fault : (limits : Limits) (text : List ℕ) (file : FileTree) (f : FileFault) → IsFile limits text file
    → IsTextFault limits text f → ⊥
no_text_fault limits text file f is (of_tokens s fault) = tokens_no_fault _ text is.0 _ _ is.1 fault
no_text_fault limits text file f is (of_grammar s fault) = no_grammar_fault limits text file _ _ is fault

one_text_fault : (limits : Limits) (text : List ℕ) (f g : FileFault) → IsTextFault limits text f
    → IsTextFault limits text g → f ≡ g
one_text_fault limits text f g (of_tokens s x) (of_tokens t y) =
    let same = file_fault_one _ text _ _ _ _ x y in same_fault f g (s ∙ sym t) same.0 same.1
one_text_fault limits text f g (of_grammar s x) (of_grammar t y) =
    let same = one_grammar_fault limits text _ _ _ _ x y in same_fault f g (s ∙ sym t) same.0 same.1
one_text_fault limits text f g (of_tokens s x) (of_grammar t y) = absurd (tokens_no_fault _ text y.0 _ _ y.2 x)
one_text_fault limits text f g (of_grammar s x) (of_tokens t y) = absurd (tokens_no_fault _ text x.0 _ _ x.2 y)

-- ---- the faults of a source by itself

-- of a text that is no file there is one
pub only_text_fault : (limits : Limits) (name text : List ℕ) (f g : FileFault) → IsTextFault limits text f
    → IsOwnFault limits name text g → g ≡ f
only_text_fault limits name text f g fault (of_text also) = one_text_fault limits text g f also fault
only_text_fault limits name text f g fault (of_rules file is step breaks) =
    absurd (no_text_fault limits text file f is fault)

-- of a file they are the rules that it breaks
pub own_of_file : (limits : Limits) (name text : List ℕ) (file : FileTree) (f : FileFault) → IsFile limits text file
    → IsOwnFault limits name text f ↔ ((f.step ≡ 2) × FileBreaks limits file (lowered name file) f.spot)
own_of_file limits name text file f is = (rules, λ w. of_rules file is w.0 w.1)
  where
    rules : IsOwnFault limits name text f → (f.step ≡ 2) × FileBreaks limits file (lowered name file) f.spot
    rules (of_text fault) = absurd (no_text_fault limits text file f is fault)
    rules (of_rules other also step breaks) = (step, rw (one_file limits text other file also is) at breaks)

pub no_own : (limits : Limits) (name text : List ℕ) (desc : FileDesc) (f : FileFault) → Describes limits name text desc
    → IsOwnFault limits name text f → ⊥
no_own limits name text desc f (file, is, unbroken, made) own =
    unbroken f.spot ((own_of_file limits name text file f is).0 own).1

pub one_descriptor : (limits : Limits) (name text : List ℕ) (f g : FileDesc) → Describes limits name text f
    → Describes limits name text g → f ≡ g
one_descriptor limits name text f g (tree, is, unbroken, made) (other, is', unbroken', made') =
    made ∙ ap (lowered name) (one_file limits text tree other is is') ∙ sym made'

-- ---- the first of them

one_no_later : (f g : FileFault) → IsNoLater f g → IsNoLater g f → f ≡ g
one_no_later f g (inl less) (inl more) = absurd (omega arith)
one_no_later f g (inl less) (inr more) = absurd (omega (arith, more.0))
one_no_later f g (inr less) (inl more) = absurd (omega (arith, less.0))
one_no_later f g (inr less) (inr more) =
    let one = one_spot f.spot.place g.spot.place f.spot.kind g.spot.kind less.1 more.1 in
    same_fault f g less.0 (ap (λ p. p.offset) one.0) one.1

pub one_local : (limits : Limits) (name text : List ℕ) (f g : FileFault) → IsLocalFault limits name text f
    → IsLocalFault limits name text g → f ≡ g
one_local limits name text f g first other =
    one_no_later f g (first.least g other.among) (other.least f first.among)

pub text_is_first : (limits : Limits) (name text : List ℕ) (f : FileFault) → IsTextFault limits text f
    → IsLocalFault limits name text f
text_is_first limits name text f fault = record {
  among = of_text fault;
  least = λ g own. rw (only_text_fault limits name text f g fault own) (inr (refl, inr (refl, omega arith)));
}

pub rule_is_first : (limits : Limits) (name text : List ℕ) (file : FileTree) (f : FileFault) → IsFile limits text file
    → f.step ≡ 2 → IsLeast (FileBreaks limits file (lowered name file)) (Some f.spot) → IsLocalFault limits name text f
rule_is_first limits name text file f is step least = record {
  among = of_rules file is step least.is.among;
  least = λ g own. let rule = (own_of_file limits name text file g is).0 own in
      inr (step ∙ sym rule.0, least.is.least g.spot rule.1);
}

-- ---- what an error tells

pub tells_more : (P Q : FileFault → Type 0) → ((f : FileFault) → P f → Q f) → (e : FileError) → TellsFirst P e
    → TellsFirst Q e
tells_more P Q h (errors.First f) p = h f p
tells_more P Q h errors.NoMemory p = p
