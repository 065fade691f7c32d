-- Tokens of the program, and what they spell.
use Rattle.std.proofs.Common.{◌≡◌, ◌∙◌, sym, ap, refl, ℕ, true, false, cond, eqb, List, [], ◌∷◌, Option, Some, None, map}
use Rattle.std.specs.Prelude.{find, option_map}
use Rattle.std.specs.List.Sorted.{IsNonDecreasingBy}
use Rattle.proto_tokens.specs.ProgramTokens.{spelled, tokens_of}
use Rattle.proto_tokens.specs.declared.token.Tokens.{Tokens}
use Rattle.proto_base.specs.declared.kind.Kind.{Kind}
use Rattle.proto_base.specs.declared.place.Place.{Place}
use Rattle.proto_tokens.specs.declared.token.Token.{Token}
use Rattle.proto_tokens.specs.declared.token.TokenError.{TokenError}
use Rattle.proto_tokens.specs.declared.token.TokenError.TheVariants as errors
use Rattle.fault_report.specs.Tokens.{AreTokens, IsTokenEnd, end_among}
use Rattle.fault_report.proofs.TokenOrder.{list_rises, program_rises}

-- the end of the token that begins at a place
pub end_of_spelled : (ts : List Token) (place : ℕ)
    → end_among (map spelled ts) place ≡ option_map (λ t. t.span.end.offset) (find
    (λ t. eqb t.span.start.offset place) ts)
end_of_spelled [] place = refl
end_of_spelled (t ∷ ts) place = elim (eqb t.span.start.offset place) as
    (λ b. option_map (λ s. s.end) (cond b (Some (spelled t)) (find (λ s. eqb s.start place) (map spelled ts)))
    ≡ option_map (λ u. u.span.end.offset) (cond b (Some t) (find (λ u. eqb u.span.start.offset place) ts))) [
      | true ↦ refl
      | false ↦ end_of_spelled ts place
    ]

-- the same of the one that was found, if one was
pub end_of_found : (ts : List Token) (place : ℕ) (found : Option Token)
    → found ≡ find (λ t. eqb t.span.start.offset place) ts
    → option_map (λ t. t.span.end.offset) found ≡ end_among (map spelled ts) place
end_of_found ts place found is = ap (λ (o : Option Token). option_map (λ t. t.span.end.offset) o) is
    ∙ sym (end_of_spelled ts place)

-- an error that tells a place is not for want of memory
pub no_memory_at : (place : Place) (kind : Kind) (e : TokenError) → e ≡ errors.At place kind → e ≡ errors.NoMemory → ⊥
no_memory_at place kind e is memory = let clash : errors.At place kind ≡ errors.NoMemory = sym is ∙ memory in cc

-- where a token of a text ends, by its tokens
pub end_told : (limit : ℕ) (text : List ℕ) (place : ℕ) (found : Option Tokens) (tokens : Tokens) (end : Option ℕ)
    → found ≡ Some tokens → AreTokens limit text found
    → (IsNonDecreasingBy (λ (t : Token). t.span.start.offset) tokens.items.items
    → end ≡ end_among (tokens_of tokens) place)
    → IsTokenEnd limit text place end
end_told limit text place found tokens end is are told =
    let at : AreTokens limit text (Some tokens) = rw is at are in
    let here = told (program_rises tokens.items.items (list_rises limit text (tokens_of tokens) at.spelled)) in record {
      spelled = λ ts list. let same : Some (tokens_of tokens) ≡ Some ts = at.every ts list in
          here ∙ ap (λ us. end_among us place) (cc);
      none = λ at' kind fault. let clash : Some tokens ≡ None = at.none at' kind fault in cc;
    }

pub end_untold : (limit : ℕ) (text : List ℕ) (place : ℕ) (found : Option Tokens) → found ≡ None → AreTokens limit text found
    → IsTokenEnd limit text place None
end_untold limit text place found is are =
    let at : AreTokens limit text None = rw is at are in record {
      spelled = λ ts list. let clash = at.every ts list in cc;
      none = λ at' kind fault. refl;
    }
