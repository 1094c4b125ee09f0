-- The rule of the table: numbers 1 to 23, each once; a reply number is a request number plus 0x80; from and to the number are
-- inverse. Assumes nothing.
use mathlib.Core.Path.{◌≡◌, refl, ap, sym, ◌∙◌}
use mathlib.Core.Bool.{Bool, true, false, ◌&&◌, ◌||◌, cond}
use mathlib.Core.List.{List, [], ◌∷◌, map, reverse}
use denote.Ref.{Bor}
use Prim.Native.Nat.{ℕ, zero, suc, ◌+◌, ◌-◌, ◌≤◌, ◌<◌}
use native.Mathlib.Decide.{dec_lt}
use native.Mathlib.Omega.{arith}
use lib.Dec.{eqb, leb, ltb}
use lib.ListN.{length}
use borrow.Author.Tests.{eqb-true, eqb-false, eq-eqb, ne_eqb, leb-true, ltb-true}
use Rattle.std.specs.Prelude.{Option, None, Some}
use Rattle.std.specs.List.{slice_get}
use Rattle.std.specs.Option.{option_copied}
use Rattle.std.specs.Slice.{IsItemAt}
use Rattle.std.proofs.lemmas.Option.{slice_get_past, slice_get_read}
use Rattle.method.specs.declared.Method.{Method}
use Rattle.method.specs.declared.Method.TheVariants.{Access, Getattr, Readlink, Symlink, Link, Rename, Chmod, Chown, Truncate, Fsync, Open, Mknod, Create, Release, Unlink, Read, Write, Mkdir, Readdir, Rmdir, Statfs, Utimens, Getcreds}
use Rattle.method.specs.declared.TheConstants.Method.{ACCESS, GETATTR, READLINK, SYMLINK, LINK, RENAME, CHMOD, CHOWN, TRUNCATE, FSYNC, OPEN, MKNOD, CREATE, RELEASE, UNLINK, READ, WRITE, MKDIR, READDIR, RMDIR, STATFS, UTIMENS, GETCREDS}
use Rattle.method.specs.declared.TheConstants.Method.{ACCESS_REPLY, GETATTR_REPLY, READLINK_REPLY, SYMLINK_REPLY, LINK_REPLY, RENAME_REPLY, CHMOD_REPLY, CHOWN_REPLY, TRUNCATE_REPLY, FSYNC_REPLY, OPEN_REPLY, MKNOD_REPLY, CREATE_REPLY, RELEASE_REPLY, UNLINK_REPLY, READ_REPLY, WRITE_REPLY, MKDIR_REPLY, READDIR_REPLY, RMDIR_REPLY, STATFS_REPLY, UTIMENS_REPLY, GETCREDS_REPLY}
use Rattle.method.specs.Methods.{methods, request_number, reply_offset, reply_number, Found, found, unknown, lookup, of_request, of_reply, found_method}

-- ---- numbers 1 to 23, each once

-- n numbers one after another, from a on
abbrev upwards : ℕ → ℕ → List ℕ
upwards a zero = []
upwards a (suc n) = a ∷ upwards (suc a) n

pub numbers : map request_number methods ≡ upwards 1 23
numbers = refl

-- the constants that code matches on are these numbers, in the same order
pub request-constants : ACCESS ∷ GETATTR ∷ READLINK ∷ SYMLINK ∷ LINK ∷ RENAME ∷ CHMOD ∷ CHOWN ∷ TRUNCATE ∷ FSYNC ∷ OPEN ∷ MKNOD ∷ CREATE ∷ RELEASE ∷ UNLINK ∷ READ ∷ WRITE ∷ MKDIR ∷ READDIR ∷ RMDIR ∷ STATFS ∷ UTIMENS ∷ GETCREDS ∷ [] ≡ map request_number methods
request-constants = refl

pub reply-constants : ACCESS_REPLY ∷ GETATTR_REPLY ∷ READLINK_REPLY ∷ SYMLINK_REPLY ∷ LINK_REPLY ∷ RENAME_REPLY ∷ CHMOD_REPLY ∷ CHOWN_REPLY ∷ TRUNCATE_REPLY ∷ FSYNC_REPLY ∷ OPEN_REPLY ∷ MKNOD_REPLY ∷ CREATE_REPLY ∷ RELEASE_REPLY ∷ UNLINK_REPLY ∷ READ_REPLY ∷ WRITE_REPLY ∷ MKDIR_REPLY ∷ READDIR_REPLY ∷ RMDIR_REPLY ∷ STATFS_REPLY ∷ UTIMENS_REPLY ∷ GETCREDS_REPLY ∷ [] ≡ map reply_number methods
reply-constants = refl

-- ---- from and to the number are inverse

-- a method that is found has the number, for requests and for replies
found_number : (f : Method → ℕ) (ms : List Method) (n : ℕ) {m : Method} → lookup f ms n ≡ found m → n ≡ f m
found_number f [] n {m} e = let z : ◌≡◌ {A = ℕ} 0 1 = cc in let none : ⊥ = omega arith in absurd none
found_number f (k ∷ ks) n {m} e = go (eqb n (f k)) refl e (found_number f ks n)
  where
    go : (t : Bool) → eqb n (f k) ≡ t → cond t (found k) (lookup f ks n) ≡ found m → (lookup f ks n ≡ found m → n ≡ f m) → n ≡ f m
    go true h e r = let i : k ≡ m = cc in eqb-true n (f k) h ∙ ap f i
    go false h e r = r e

pub request-number : (n : ℕ) {m : Method} → of_request n ≡ found m → n ≡ request_number m
unfolding of_request
request-number n e = found_number request_number methods n e

pub reply-number : (n : ℕ) {m : Method} → of_reply n ≡ found m → n ≡ reply_number m
unfolding of_reply
reply-number n e = found_number reply_number methods n e

-- each method is found by its number
pub request-found : (m : Method) → of_request (request_number m) ≡ found m
unfolding of_request
request-found Access = refl
request-found Getattr = refl
request-found Readlink = refl
request-found Symlink = refl
request-found Link = refl
request-found Rename = refl
request-found Chmod = refl
request-found Chown = refl
request-found Truncate = refl
request-found Fsync = refl
request-found Open = refl
request-found Mknod = refl
request-found Create = refl
request-found Release = refl
request-found Unlink = refl
request-found Read = refl
request-found Write = refl
request-found Mkdir = refl
request-found Readdir = refl
request-found Rmdir = refl
request-found Statfs = refl
request-found Utimens = refl
request-found Getcreds = refl

-- a reply number is looked up as the request number below it
same_test : (n k : ℕ) → 0x80 ≤ n → eqb n (k + 0x80) ≡ eqb (n - 0x80) k
same_test n k h = go (eqb (n - 0x80) k) refl
  where
    go : (t : Bool) → eqb (n - 0x80) k ≡ t → eqb n (k + 0x80) ≡ t
    go true e = let i : n - 0x80 ≡ k = eqb-true (n - 0x80) k e in eq-eqb n (k + 0x80) (omega arith)
    go false e = ne_eqb n (k + 0x80) (λ i. eqb-false (n - 0x80) k e (omega arith))

lookup-reply : (ms : List Method) (n : ℕ) → 0x80 ≤ n → lookup reply_number ms n ≡ lookup request_number ms (n - 0x80)
lookup-reply [] n h = refl
lookup-reply (m ∷ ms) n h = rw (same_test n (request_number m) h, lookup-reply ms n h)

pub reply-as-request : (n : ℕ) → 0x80 ≤ n → of_reply n ≡ of_request (n - 0x80)
unfolding of_request of_reply
reply-as-request n h = lookup-reply methods n h

lookup-below : (ms : List Method) (n : ℕ) → n < 0x80 → lookup reply_number ms n ≡ unknown
lookup-below [] n h = refl
lookup-below (m ∷ ms) n h = rw (ne_eqb n (reply_number m) (λ i. omega arith)) (lookup-below ms n h)

pub reply-below : (n : ℕ) → n < 0x80 → of_reply n ≡ unknown
unfolding of_reply
reply-below n h = lookup-below methods n h

pub reply-found : (m : Method) → of_reply (reply_number m) ≡ found m
reply-found m =
    let e : reply_number m - 0x80 ≡ request_number m = omega arith in
    reply-as-request (reply_number m) (omega arith) ∙ ap of_request e ∙ request-found m

-- ---- a test that every method of the table passes

abbrev pub all_pass : (Method → Bool) → List Method → Bool
all_pass p [] = true
all_pass p (m ∷ ms) = p m && all_pass p ms

and_both : (t u : Bool) → t && u ≡ true → (t ≡ true) × (u ≡ true)
and_both true u h = (refl, h)
and_both false u h = let z : ◌≡◌ {A = ℕ} 0 1 = cc in let none : ⊥ = omega arith in absurd none

found-passes : (p : Method → Bool) (f : Method → ℕ) (ms : List Method) (n : ℕ) {m : Method} → all_pass p ms ≡ true → lookup f ms n ≡ found m → p m ≡ true
found-passes p f [] n {m} h e = let z : ◌≡◌ {A = ℕ} 0 1 = cc in let none : ⊥ = omega arith in absurd none
found-passes p f (k ∷ ks) n {m} h e = go (eqb n (f k)) e (found-passes p f ks n both.1)
  where
    both : (p k ≡ true) × (all_pass p ks ≡ true)
    both = and_both (p k) (all_pass p ks) h

    go : (t : Bool) → cond t (found k) (lookup f ks n) ≡ found m → (lookup f ks n ≡ found m → p m ≡ true) → p m ≡ true
    go true e r = let i : m ≡ k = cc in ap p i ∙ both.0
    go false e r = r e

pub request-passes : (p : Method → Bool) → all_pass p methods ≡ true → (n : ℕ) {m : Method} → of_request n ≡ found m → p m ≡ true
unfolding of_request
request-passes p h n e = found-passes p request_number methods n h e

pub reply-passes : (p : Method → Bool) → all_pass p methods ≡ true → (n : ℕ) {m : Method} → of_reply n ≡ found m → p m ≡ true
unfolding of_reply
reply-passes p h n e = found-passes p reply_number methods n h e

-- request numbers lie below reply numbers
pub request-below : (m : Method) → request_number m < reply_offset
request-below m = ltb-true (request_number m) reply_offset (request-passes (λ k. ltb (request_number k) reply_offset) refl (request_number m) (request-found m))

-- ---- a number that is none of those of a match is unknown

-- x is none of the keys; a match lists them with the last key outermost
abbrev pub NoneOf : List ℕ → ℕ → Type 0
NoneOf [] x = Unit {0}
NoneOf (k ∷ ks) x = NoneOf ks x × (x ≡ k → ⊥)

abbrev pub has : List ℕ → ℕ → Bool
has [] k = false
has (j ∷ js) k = eqb k j || has js k

abbrev has_all : List ℕ → List ℕ → Bool
has_all ks [] = true
has_all ks (n ∷ ns) = has ks n && has_all ks ns

pub differs : (ks : List ℕ) (k x : ℕ) → NoneOf ks x → has ks k ≡ true → x ≡ k → ⊥
differs [] k x n h e = let z : ◌≡◌ {A = ℕ} 0 1 = cc in omega arith
differs (j ∷ js) k x n h e = go (eqb k j) refl h (λ g. differs js k x n.0 g e)
  where
    go : (b : Bool) → eqb k j ≡ b → b || has js k ≡ true → (has js k ≡ true → ⊥) → ⊥
    go true f g later = n.1 (e ∙ eqb-true k j f)
    go false f g later = later g

none_found : (ks : List ℕ) (f : Method → ℕ) (ms : List Method) (x : ℕ) → NoneOf ks x → has_all ks (map f ms) ≡ true → lookup f ms x ≡ unknown
none_found ks f [] x n h = refl
none_found ks f (m ∷ ms) x n h = go (has ks (f m)) refl h (none_found ks f ms x n)
  where
    go : (b : Bool) → has ks (f m) ≡ b → b && has_all ks (map f ms) ≡ true → (has_all ks (map f ms) ≡ true → lookup f ms x ≡ unknown) → lookup f (m ∷ ms) x ≡ unknown
    go true e g later = rw (ne_eqb x (f m) (differs ks (f m) x n e)) (later g)
    go false e g later = let z : ◌≡◌ {A = ℕ} 0 1 = cc in let none : ⊥ = omega arith in absurd none

pub request-unknown : (x : ℕ) → NoneOf (reverse (map request_number methods)) x → of_request x ≡ unknown
unfolding of_request
request-unknown x n = none_found (reverse (map request_number methods)) request_number methods x n refl

pub reply-unknown : (x : ℕ) → NoneOf (reverse (map reply_number methods)) x → of_reply x ≡ unknown
unfolding of_reply
reply-unknown x n = none_found (reverse (map reply_number methods)) reply_number methods x n refl

-- ---- the known request numbers are 1 to 23

abbrev pub is_found : Found → Bool
is_found (found m) = true
is_found unknown = false

abbrev pub all_from : (ℕ → Bool) → ℕ → ℕ → Bool
all_from p a zero = true
all_from p a (suc c) = p a && all_from p (suc a) c

abbrev all_below : ℕ → List ℕ → Bool
all_below top [] = true
all_below top (n ∷ ns) = leb n top && all_below top ns

-- what passes at c numbers one after another passes at each
pub at_each : (p : ℕ → Bool) (a c n : ℕ) → all_from p a c ≡ true → a ≤ n → n < a + c → p n ≡ true
at_each p a zero n h l u = let none : ⊥ = omega arith in absurd none
at_each p a (suc c) n h l u = go (dec_lt a n) (λ g b. at_each p (suc a) c n b (omega arith) (omega arith))
  where
    both : (p a ≡ true) × (all_from p (suc a) c ≡ true)
    both = and_both (p a) (all_from p (suc a) c) h

    go : Dec (a < n) → (a < n → all_from p (suc a) c ≡ true → p n ≡ true) → p n ≡ true
    go (yes g) r = r g both.1
    go (no g) r = let e : n ≡ a = omega arith in ap p e ∙ both.0

pub request-known : (n : ℕ) → 0 < n → n ≤ 23 → is_found (of_request n) ≡ true
unfolding of_request
request-known n l u = at_each (λ k. is_found (lookup request_number methods k)) 1 23 n refl l (omega arith)

-- a number above all those of the table is unknown
above : (f : Method → ℕ) (ms : List Method) (top n : ℕ) → all_below top (map f ms) ≡ true → top < n → lookup f ms n ≡ unknown
above f [] top n h l = refl
above f (m ∷ ms) top n h l =
    let b : (leb (f m) top ≡ true) × (all_below top (map f ms) ≡ true) = and_both (leb (f m) top) (all_below top (map f ms)) h in
    let u : f m ≤ top = leb-true (f m) top b.0 in
    rw (ne_eqb n (f m) (λ e. omega arith)) (above f ms top n b.1 l)

pub request-above : (n : ℕ) → 23 < n → of_request n ≡ unknown
unfolding of_request
request-above n l = above request_number methods 23 n refl l

pub request-zero : of_request 0 ≡ unknown
unfolding of_request
request-zero = refl

-- ---- where the numbers count upwards, a number is found at its place

-- the numbers under f count upwards from a: a + i is the number of the method at place i, and past the end of none
counted : (f : Method → ℕ) (ms : List Method) (a n i : ℕ) → map f ms ≡ upwards a (length ms) → n ≡ a + i → lookup f ms n ≡ found_method (slice_get ms i)
counted f [] a n i e h = refl
counted f (m ∷ ms) a n zero e h =
    let first : f m ≡ a = cc in
    rw (eq-eqb n (f m) (omega arith))
counted f (m ∷ ms) a n (suc i) e h =
    let first : f m ≡ a = cc in
    let rest : map f ms ≡ upwards (suc a) (length ms) = cc in
    rw (ne_eqb n (f m) (λ s. omega arith)) (counted f ms (suc a) n i rest (omega arith))

-- what `get` and `copied` read at a place
item-copied : {X : Type 0} (xs : List X) (i : ℕ) (r : Option (Bor X)) → IsItemAt xs i r → option_copied r ≡ slice_get xs i
item-copied xs i None h = sym (slice_get_past xs i h.3)
item-copied xs i (Some x) h = sym (slice_get_read xs (length xs) i x.now refl h.3.0 h.1)

-- a request number is looked up as the place below it
pub request-at : (n i : ℕ) (r : Option (Bor Method)) → 1 ≤ n → i ≡ n - 1 → IsItemAt methods i r → found_method (option_copied r) ≡ of_request n
unfolding of_request
request-at n i r l e h = ap found_method (item-copied methods i r h) ∙ sym (counted request_number methods 1 n i numbers (omega arith))
