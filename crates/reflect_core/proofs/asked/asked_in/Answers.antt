use Rattle.reflect_core.proofs.Common.{ℕ, ◌+◌, ◌<◌, List, [], ◌∷◌, ◌++◌, length, map, take, get_or, arith, refl, AllZip, All-push, All-get_or, all_zipped_more, count_of, IsAsked, root, IsRootWithin, asked_of, Reads, bytes_of}
use Rattle.std.proofs.lemmas.List.{map_more, map-append}
use Rattle.reflect_core.proofs.asked.asked_in.Goals as goal

-- lists of two kinds, related item by item, one item longer
zip_more : {A B X Y : Type 0} (R : X → Y → Type 0) (f : A → X) (g : B → Y) (xs : List A) (bs : List B) (k : ℕ) (d : A)
    (b : B) → k < length xs → AllZip R (map f (take k xs)) (map g bs) → R (f (get_or xs k d)) (g b)
    → AllZip R (map f (take (k + 1) xs)) (map g (bs ++ b ∷ []))
zip_more R f g xs bs k d b below before here =
    rw (map_more f xs k d below, map-append g bs (b ∷ [])) (all_zipped_more R _ _ _ _ before here)

pub loop-message-preserved : goal.loop-message-preserved
loop-message-preserved c =
    let messages = c.args.messages.now in let k = c.loop-message.message-index in
    let compiled = c.args.compiled.now in let before = c.loop-message.invariant in
    record {
      asked = rw c.in_ok-push.ensures.items (zip_more (IsAsked compiled) bytes_of asked_of messages _ k _ _
          (omega arith) before.asked (record {
            same = refl;
            ask = _;
            reads = All-get_or Reads messages k _ (omega arith) c.requires;
            answered = c.answer_to.ensures.answer;
          }));
      within = rw c.in_ok-push.ensures.items
          (All-push (λ a. IsRootWithin (count_of compiled.links) (root (asked_of a))) _ _ before.within
          c.answer_to.ensures.within);
    }
