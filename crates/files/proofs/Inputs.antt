-- What is known of the bytes that were read. Assumes nothing.
use Rattle.std.proofs.Common.{ℕ, suc, ◌≡◌, ◌+◌, ◌≤◌, List, ◌++◌, length, take, Option, Some, None, IfSome, Result, Ok, Err, IfOk, MatchResult, is_ok, true≢false, arith, length-take, sym, ap, subst, ◌∙◌, append-nil, take_all, length-take-le}
use Rattle.std.proofs.lemmas.Result.{IfOk-at_ok}
use Rattle.std.proofs.lemmas.List.{take-append-le}
use Rattle.std.proofs.Math.Seq.{take-append_seam, take-append-add}
use Rattle.std.specs.Io.KnownBytes.{Consumes, IsAtEnd}
use Rattle.io.specs.Counts.{IsPrefixLen}
use borrow.Rule.Slice.PartMut.{put_mid, post_of}
use Rattle.rules.specs.Numbers.{longest}
use Rattle.files.specs.Ends.{ReadInto, stream_front}

-- what `&buffer[..n]` asks
pub bytes_read : {E : Type 0} (buffer : List ℕ) {r : Result ℕ E} {n : ℕ} → r ≡ Ok n → ReadInto r buffer → IsPrefixLen n buffer
bytes_read buffer e p = IfOk-at_ok (λ n. IsPrefixLen n buffer) e p

-- where n bytes are read into the buffer behind its first a, they stand there
pub front_grows : (a k n m : ℕ) (buffer part : List ℕ) → m ≡ a + n → a ≤ length buffer → n ≤ length part
    → take a buffer ++ take n part ≡ take m (put_mid a k buffer part)
front_grows a k n m buffer part sum within fits =
    let after = part ++ post_of a k buffer in
    let added = ap (λ i. take (i + n) (take a buffer ++ after)) (sym (length-take-le a buffer within)) ∙ take-append-add (take a buffer) after n in
    sym (ap (λ i. take i (put_mid a k buffer part)) sum ∙ added ∙ ap (λ xs. take a buffer ++ xs) (take-append-le n part (post_of a k buffer) fits))

-- what was read of known bytes, where the reader is at its end ..
pub all_given : (n : ℕ) (buffer : List ℕ) (old new : Option (List ℕ)) → Consumes old new (take n buffer) → IsAtEnd new
    → IfSome old (λ bytes. take n buffer ≡ take (length buffer) bytes)
all_given n buffer None new p end = tt
all_given n buffer (Some x) None p end = absurd p
all_given n buffer (Some x) (Some y) p end =
    let got = take n buffer in
    let whole = p ∙ ap (λ l. got ++ l) end ∙ append-nil got in
    sym (ap (take (length buffer)) whole ∙ take_all (length buffer) got (omega (arith, length-take n buffer)))

-- .. and where the buffer is full
pub full_given : (n : ℕ) (buffer : List ℕ) (old new : Option (List ℕ)) → length buffer ≤ n → Consumes old new (take n buffer)
    → IfSome old (λ bytes. take n buffer ≡ take (length buffer) bytes)
full_given n buffer None new h p = tt
full_given n buffer (Some x) None h p = absurd p
full_given n buffer (Some x) (Some y) h p =
    let full = take_all n buffer h in
    full ∙ sym (ap (take (length buffer)) (p ∙ ap (λ l. l ++ y) full) ∙ take-append_seam buffer y)

-- what holds of the bytes that were read holds of the front of the known ones
pub of_front : (size : ℕ) (known : Option (List ℕ)) (got : List ℕ) (P : List ℕ → Type 0) → size ≡ suc longest
    → IfSome known (λ bytes. got ≡ take size bytes) → P got → IfSome known (λ bytes. P (stream_front bytes))
of_front size None got P e h p = tt
of_front size (Some x) got P e h p = subst P (h ∙ ap (λ n. take n x) e) p

-- what holds of a result's value still holds where its error is said in another way
pub value_kept : {T E F : Type 0} (P : T → Type 0) (Q : E → Type 0) (r : Result T E) (q : Result T F) → MatchResult r (λ x. q ≡ Ok x) Q
    → is_ok q ≡ is_ok r → IfOk r P → IfOk q P
value_kept P Q (Ok x) q e v p = subst (λ z. IfOk z P) (sym e) p
value_kept P Q (Err x) (Ok y) e v p = absurd (true≢false v)
value_kept P Q (Err x) (Err y) e v p = tt
