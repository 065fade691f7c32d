-- The replies to some requests and to one more.
use Rattle.reflect_core.proofs.Common.{◌≡◌, ℕ, zero, suc, ◌+◌, ◌<◌, List, [], ◌∷◌, ◌++◌, length, map, take, get_or, ap, arith, refl, add-one, append-nil, flat_map, Vec, Global, common_steps, flat_map-append, Compilation, Asked, contents_of, reply, replies_to, AreContentsLengths, AreReplyable, HasContents, asked_of, files_of, reply_size, frame}
use Rattle.reflect_core.specs.declared.asked.Asked as rust

-- how long a reply is, part by part
pub reply_length : (c : Compilation) (asked : Asked) (files : List ℕ)
    → length (reply c asked files) ≡ reply_size asked (length (contents_of c files asked.answer))
reply_length c asked files = grind (arith, common_steps)

abbrev pub prefix : Compilation → ℕ → List rust.Asked → List (Vec ℕ Global) → List (List ℕ)
prefix c k xs ys = replies_to c (map asked_of (take k xs)) (map files_of (take k ys))

replies_more : (c : Compilation) (k : ℕ) (xs : List rust.Asked) (ys : List (Vec ℕ Global)) (a : rust.Asked)
    (f : Vec ℕ Global) → k < length xs → k < length ys
    → prefix c (suc k) xs ys ≡ prefix c k xs ys ++ reply c (asked_of (get_or xs k a)) (files_of (get_or ys k f)) ∷ []
replies_more c zero (x ∷ xs) (y ∷ ys) a f below short = refl
replies_more c (suc k) (x ∷ xs) (y ∷ ys) a f below short =
    ap (λ l. reply c (asked_of x) (files_of y) ∷ l) (replies_more c k xs ys a f (omega arith) (omega arith))
replies_more c k xs ys a f below short = absurd (omega arith)

pub frames_more : (c : Compilation) (k : ℕ) (xs : List rust.Asked) (ys : List (Vec ℕ Global)) (a : rust.Asked)
    (files out new : List ℕ) (f : Vec ℕ Global) → k < length xs → k < length ys → files ≡ files_of (get_or ys k f)
    → out ≡ flat_map (frame 0) (prefix c k xs ys) → new ≡ out ++ frame 0 (reply c (asked_of (get_or xs k a)) files)
    → new ≡ flat_map (frame 0) (prefix c (k + 1) xs ys)
frames_more c k xs ys a files out new f below short same before is =
    let r = reply c (asked_of (get_or xs k a)) (files_of (get_or ys k f)) in
    let more = flat_map-append (frame 0) (prefix c k xs ys) (r ∷ []) in
    let last = append-nil (frame 0 r) in
    rw (add-one, replies_more c k xs ys a f below short) (cc (more, last))

-- ---- how long is what members hold

-- what the member of a reply holds has room where the reply has
pub contents_at : (c : Compilation) (services : List ℕ) (xs : List rust.Asked) (ys : List (Vec ℕ Global)) (k : ℕ)
    (a : rust.Asked) (f : Vec ℕ Global) (files : List ℕ) → AreReplyable c services xs ys
    → k < length xs → files ≡ (get_or ys k f).items → HasContents c services (asked_of (get_or xs k a)).answer files
contents_at c services xs ys k a f files all below is =
    let each = all.each k a f below in
    let whole = reply_length c (asked_of (get_or xs k a)) (get_or ys k f).items in
    rw is (record { listed = each.listed; inside = each.inside; short = omega (arith, each.short, whole) })

-- a reply has room in a frame, also by the length of what its member holds
pub short_at : (c : Compilation) (services : List ℕ) (xs : List rust.Asked) (ys : List (Vec ℕ Global))
    (lengths : List ℕ) (k n : ℕ) (a : rust.Asked)
    → AreReplyable c services xs ys → AreContentsLengths c xs ys lengths (length xs) → k < length xs
    → reply_size (asked_of (get_or xs k a)) (get_or lengths k n) < 4294967296
short_at c services xs [] lengths k n a all are below = absurd (let size = all.size in omega arith)
short_at c services xs (y ∷ ys) lengths k n a all are below =
    let whole = reply_length c (asked_of (get_or xs k a)) (get_or (y ∷ ys) k y).items in
    rw (are.each k n a y below) (omega (arith, (all.each k a y below).short, whole))
