-- Laws for hosts: a message that was read, given to the writer of its shape by what its reading shows, is written with the values that were
-- read. Assumes nothing.
use mathlib.Core.Path.{◌≡◌, refl, sym, ap, ap₂, ◌∙◌, subst}
use mathlib.Core.Bool.{Bool, true, false}
use mathlib.Core.List.{List, [], ◌∷◌, ◌++◌, map}
use Prim.Native.Nat.{ℕ}
use lib.Dec.{eqb}
use lib.IntN.{ℤ, pos}
use lib.ListN.{length}
use borrow.Author.Tests.{eq-eqb}
use Rattle.number.specs.BigEndian.{Bytes}
use Rattle.layout.specs.Kinds.{Kind, num, string, bytes, strings}
use Rattle.layout.specs.Table.{request, reply, Plan, unexpected, header, asked, plain, led, plan}
use Rattle.layout.specs.Values.{Part, Value, number, signed, truth, run, runs, bytes_in, contents, fits-num, fits-string, fits-bytes, fits-strings, AllFit, none, more}
use Rattle.layout.specs.Reading.{known, success, accepted, read}
use Rattle.layout.specs.Pieces.{kinds_of}
use Rattle.layout.specs.Writing.{write, sum}
use Rattle.layout.proofs.Tests.{apart}
use Rattle.layout.proofs.ReadFits.{accepted-fits}
use Rattle.layout.proofs.Trace.{BodyHere, a-plain, a-success, message-traced}
use Rattle.exports.specs.Given.{given, summed, request_by, behind_header, success_by}
use Rattle.exports.proofs.Plans.{every-plan}
use Rattle.exports.proofs.GivenAgain.{number_cells, joined, run_bytes, LengthsOf, sum-joined, given-again}

-- ---- a request

abbrev nameless : List Kind → Bool
nameless [] = true
nameless (num k ∷ ks) = nameless ks
nameless (string ∷ ks) = nameless ks
nameless (bytes ∷ ks) = nameless ks
nameless (strings ∷ ks) = false

-- one test over the table
request-nameless : (t : ℕ) → nameless (kinds_of (plan request t) known) ≡ true
request-nameless t = every-plan (λ pl. nameless (kinds_of pl known)) refl refl refl refl request t

-- where there are no names, any list is that of their lengths
no_lengths : (m : List ℕ) {ks : List Kind} (vs : List (Value Part)) → AllFit ks (contents m vs) → nameless ks ≡ true → (ls : List ℕ) → LengthsOf m vs ls
no_lengths m [] none h ls = tt
no_lengths m (number n ∷ vs) (more (fits-num f) t) h ls = no_lengths m vs t h ls
no_lengths m (signed z ∷ vs) (more (fits-num f) t) h ls = no_lengths m vs t h ls
no_lengths m (truth b ∷ vs) (more (fits-num f) t) h ls = no_lengths m vs t h ls
no_lengths m (run x ∷ vs) (more {ks = ks} (fits-num {k = k} f) t) h ls = elim f [ ]
no_lengths m (runs xs ∷ vs) (more {ks = ks} (fits-num {k = k} f) t) h ls = elim f [ ]
no_lengths m (run x ∷ vs) (more (fits-string s) t) h ls = no_lengths m vs t h ls
no_lengths m (run x ∷ vs) (more (fits-bytes s) t) h ls = no_lengths m vs t h ls
no_lengths m (runs xs ∷ vs) (more (fits-strings ss) t) h ls = apart h

pub request-again : (m out : List ℕ) {i t k : ℕ} {vs : List (Value Part)} → Bytes m → read request m ≡ accepted known i t vs k
    → (ns later : List ℕ) → ns ≡ number_cells vs ++ later → (s u : List ℕ) (others : List (List ℕ)) → s ∷ u ∷ [] ≡ run_bytes m vs ++ others
    → request_by i t ns s u out ≡ write request known i t (contents m vs) true out
unfolding request_by
request-again m out {i} {t} {k} {vs} by e ns later n s u others r =
    let f : AllFit (kinds_of (plan request t) known) (contents m vs) = accepted-fits request m by e in
    let again : given (kinds_of (plan request t) known) ns 0 (run_bytes m vs ++ others) [] ≡ contents m vs
    = given-again m vs f [] (no_lengths m vs f (request-nameless t) []) ns 0 later n others in
    ap (λ us. write request known i t us true out)
    (ap (λ (ss : List (List ℕ)). given (kinds_of (plan request t) known) ns 0 ss []) r ∙ again)

-- ---- a success

-- the values of a success: the result z, where its type has one, and the fields us behind it
abbrev pub with_result : Plan → ℤ → List (Value Part) → List (Value Part)
with_result unexpected z us = us
with_result header z us = us
with_result (asked ks) z us = us
with_result (plain ks) z us = us
with_result (led c ks) z us = signed z ∷ us

-- names stand alone behind a result
abbrev alone : List Kind → Bool
alone [] = true
alone (num k ∷ ks) = nameless ks
alone (string ∷ ks) = nameless ks
alone (bytes ∷ ks) = nameless ks
alone (strings ∷ []) = true
alone (strings ∷ k ∷ ks) = false

abbrev alone_in : Plan → Bool
alone_in unexpected = true
alone_in header = true
alone_in (asked ks) = true
alone_in (plain ks) = alone ks
alone_in (led c ks) = alone ks

-- one test over the table
reply-alone : (t : ℕ) → alone_in (plan reply t) ≡ true
reply-alone t = every-plan alone_in refl refl refl refl reply t

nameless-summed : (ks : List Kind) (s ls : List ℕ) → nameless ks ≡ true → summed ks s ls ≡ true
nameless-summed [] s ls h = refl
nameless-summed (num k ∷ ks) s ls h = nameless-summed ks s ls h
nameless-summed (string ∷ ks) s ls h = nameless-summed ks s ls h
nameless-summed (bytes ∷ ks) s ls h = nameless-summed ks s ls h
nameless-summed (strings ∷ ks) s ls h = apart h

module _ (m : List ℕ) (s ls : List ℕ) (others : List (List ℕ)) where
  names-summed : {ks : List Kind} (us : List (Value Part)) → AllFit ks (contents m us) → ks ≡ strings ∷ [] → LengthsOf m us ls → s ∷ [] ≡ run_bytes m us ++ others
      → eqb (sum ls) (length s) ≡ true
  names-summed [] none k l r = apart (cc)
  names-summed (number n ∷ us) (more (fits-num f) t) k l r = apart (cc)
  names-summed (signed z ∷ us) (more (fits-num f) t) k l r = apart (cc)
  names-summed (truth b ∷ us) (more (fits-num f) t) k l r = apart (cc)
  names-summed (run x ∷ us) (more {ks = ks} (fits-num f) t) k l r = elim f [ ]
  names-summed (runs xs ∷ us) (more {ks = ks} (fits-num f) t) k l r = elim f [ ]
  names-summed (run x ∷ us) (more (fits-string w) t) k l r = apart (cc)
  names-summed (run x ∷ us) (more (fits-bytes w) t) k l r = apart (cc)
  names-summed (runs xs ∷ us) (more (fits-strings ss) t) k l r =
      let e : s ≡ joined (map (bytes_in m) xs) = cc in
      eq-eqb (sum ls) (length s) (ap sum l.0 ∙ sum-joined (map (bytes_in m) xs) ∙ sym (ap length e))

  -- the lengths of names sum to their run
  summed-right : (ks : List Kind) (us : List (Value Part)) → alone ks ≡ true → AllFit ks (contents m us) → LengthsOf m us ls → s ∷ [] ≡ run_bytes m us ++ others
      → summed ks s ls ≡ true
  summed-right [] us a f l r = refl
  summed-right (num k ∷ ks) us a f l r = nameless-summed ks s ls a
  summed-right (string ∷ ks) us a f l r = nameless-summed ks s ls a
  summed-right (bytes ∷ ks) us a f l r = nameless-summed ks s ls a
  summed-right (strings ∷ []) us a f l r = names-summed us f refl l r
  summed-right (strings ∷ k ∷ ks) us a f l r = apart a

  module _ (ns later : List ℕ) where
    fields-given : {ks : List Kind} (us : List (Value Part)) → alone ks ≡ true → AllFit ks (contents m us) → LengthsOf m us ls → ns ≡ number_cells us ++ later
        → s ∷ [] ≡ run_bytes m us ++ others → (given ks ns 0 (s ∷ []) ls ≡ contents m us) × (summed ks s ls ≡ true)
    fields-given {ks} us a f l n r =
        (ap (λ (ss : List (List ℕ)). given ks ns 0 ss ls) r ∙ given-again m us f ls l ns 0 later n others, summed-right ks us a f l r)

    -- what is given is what was read
    success-given : {pl : Plan} {p q : ℕ} {vs : List (Value Part)} → BodyHere m pl p success vs q → (z : ℤ) (us : List (Value Part)) → vs ≡ with_result pl z us
        → alone_in pl ≡ true → AllFit (kinds_of pl success) (contents m vs) → LengthsOf m us ls → ns ≡ number_cells us ++ later → s ∷ [] ≡ run_bytes m us ++ others
        → (behind_header pl z ns s ls ≡ contents m vs) × (summed (kinds_of pl success) s ls ≡ true)
    success-given (a-plain {ks = ks} t) z us e a f l n r =
        let g = fields-given us a (subst (λ (ws : List (Value Part)). AllFit ks (contents m ws)) e f) l n r in
        (g.0 ∙ ap (contents m) (sym e), g.1)
    success-given (a-success {ks = ks} {r = y} {vs = ws} h x t c) z us e a (more w f) l n r =
        let result : z ≡ pos y = cc in
        let same : ws ≡ us = cc in
        let g = fields-given us a (subst (λ (ws : List (Value Part)). AllFit ks (contents m ws)) same f) l n r in
        (ap₂ (λ (z : ℤ) vs. signed z ∷ vs) result (g.0 ∙ ap (contents m) (sym same)), g.1)

-- the fields us behind the result z of a reply that was read, given with the lengths of its names
pub success-again : (m out : List ℕ) {i t k : ℕ} (z : ℤ) (us : List (Value Part)) → Bytes m → read reply m ≡ accepted success i t (with_result (plan reply t) z us) k
    → (ns later : List ℕ) → ns ≡ number_cells us ++ later → (s : List ℕ) (others : List (List ℕ)) → s ∷ [] ≡ run_bytes m us ++ others
    → (ls : List ℕ) → LengthsOf m us ls
    → success_by i t z ns s ls out ≡ write reply success i t (contents m (with_result (plan reply t) z us)) true out
unfolding success_by
success-again m out {i} {t} z us by e ns later n s others r ls l =
    let g = success-given m s ls others ns later (message-traced e).rest z us refl (reply-alone t) (accepted-fits reply m by e) l n r in
    ap₂ (λ vs (b : Bool). write reply success i t vs b out) g.0 g.1
