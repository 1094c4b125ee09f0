-- Two looks agree, by what each promises and by demand 3 of the layout. Assumes nothing.
use mathlib.Core.Path.{◌≡◌, refl, sym, ap, ap₂, subst, ◌∙◌}
use mathlib.Core.Bool.{true}
use mathlib.Core.List.{List, [], ◌∷◌, map}
use Prim.Native.Nat.{ℕ, zero, suc, ◌≤◌, ◌<◌}
use lib.ListN.{length, take, get_or}
use Rattle.layout.specs.Limits.{longest}
use Rattle.layout.specs.Table.{Side, request, reply}
use Rattle.layout.specs.Values.{Part, Value, bytes_in}
use Rattle.layout.specs.Reading.{Shape, Answer, accepted, read}
use Rattle.layout.specs.Pieces.{Agree}
use Rattle.layout.specs.Parts.{nothing}
use Rattle.layout.specs.Names.{names_of, opened, steps}
use Rattle.layout.specs.Front.{FrontOutcome, front}
use Rattle.layout.specs.Demand3.{Kept}
use Rattle.layout.proofs.Iterating.{opened-steps}
use Rattle.layout.proofs.Demand3Holds.{demand3}
use Rattle.wire.specs.Runs.{shown}
use Rattle.wire.specs.Values.{shown_in}
use Rattle.wire.proofs.ShownInside.{accepted-shown}
use Rattle.names.specs.Positions.{name_of, nth_name}
use Rattle.names.proofs.Skipping.{nth-name, nth_inside}
use Rattle.front.specs.Acts.{Fronts}
use Rattle.request_reader.specs.Answers as requests
use Rattle.reply_reader.specs.Answers as replies
use Rattle.agreement.specs.declared.Seen.{Seen}
use Rattle.agreement.specs.declared.Looks.{Looks}
use Rattle.agreement.specs.Agreeing.{eq_bytes, same_parts, request_parts, reply_parts, Sees, answered, parts_same, given, Accepts, Same, Cut, Agrees}
use Rattle.agreement.proofs.SameBytes.{bytes_same, parts_same_lem}

-- ---- the name behind c names

get_d_map : {A B : Type 0} (f : A → B) (xs : List A) (c : ℕ) (d : A) → get_or (map f xs) c (f d) ≡ f (get_or xs c d)
get_d_map f [] zero d = refl
get_d_map f [] (suc c) d = refl
get_d_map f (x ∷ xs) zero d = refl
get_d_map f (x ∷ xs) (suc c) d = get_d_map f xs c d

get_d_take : {A : Type 0} (c : ℕ) (xs : List A) (d : A) → get_or (take (suc c) xs) c d ≡ get_or xs c d
get_d_take zero [] d = refl
get_d_take (suc c) [] d = refl
get_d_take zero (x ∷ xs) d = refl
get_d_take (suc c) (x ∷ xs) d = get_d_take c xs d

nth-said : (m : List ℕ) (c : ℕ) → get_or (map (bytes_in m) (steps (suc c) m (opened m))) c (bytes_in m nothing) ≡ bytes_in m (nth_name c m)
nth-said m c =
    get_d_map (bytes_in m) (steps (suc c) m (opened m)) c nothing
    ∙ ap (λ (xs : List Part). bytes_in m (get_or xs c nothing)) (opened-steps (suc c) m)
    ∙ ap (bytes_in m) (get_d_take c (names_of (read reply m)) nothing)

nth-same : (c : ℕ) (m n : List ℕ) → read reply n ≡ read reply m → nth_name c n ≡ nth_name c m
nth-same c m n e = ap (λ (a : Answer). get_or (names_of a) c nothing) e

module _ {m : List ℕ} {s : Shape} {i t k : ℕ} {vs : List (Value Part)} (h : Kept reply m s i t vs k) {n : List ℕ} (g : Agree k m n) (l : length n ≤ longest) where
  nth-bytes : (c : ℕ) → bytes_in n (nth_name c n) ≡ bytes_in m (nth_name c m)
  nth-bytes c = sym (nth-said n c) ∙ ap (λ (bs : List (List ℕ)). get_or bs c []) (h.names refl n g l (suc c)) ∙ nth-said m c

-- ---- both looks

module _ {m n : List ℕ} {c : ℕ} {out other out' other' : List ℕ} {r : Looks} (p : Sees m c out out' r.first) (q : Sees n c other other' r.second)
    (request-parts : r.same_request_parts ≡ same_parts request request_parts m (requests.answer_of r.first.request) n (requests.answer_of r.second.request))
    (reply-parts : r.same_reply_parts ≡ same_parts reply reply_parts m (replies.answer_of m r.first.reply) n (replies.answer_of n r.second.reply))
    (name-shown : r.same_name ≡ eq_bytes (shown m (nth_name c m)) (shown n (nth_name c n))) where
  reads_first : (side : Side) → answered side m r.first ≡ read side m
  reads_first request = p.request
  reads_first reply = p.reply

  reads_second : (side : Side) → answered side n r.second ≡ read side n
  reads_second request = q.request
  reads_second reply = q.reply

  first-name : given r.first ≡ nth_name c m
  first-name = ap name_of p.moves.0 ∙ nth-name c m

  second-name : given r.second ≡ nth_name c n
  second-name = ap name_of q.moves.0 ∙ nth-name c n

  module _ (side : Side) {s : Shape} {i t k : ℕ} {vs : List (Value Part)} (read_first : Accepts side m s i t vs k) where
    kept : Kept side m s i t vs k
    kept = demand3.accepts side m s i t vs k read_first

    module _ (g : Agree k m n) (l : length n ≤ longest) where
      read-second : read side n ≡ accepted s i t vs k
      read-second = kept.answers n g l

      both_read : read side n ≡ read side m
      both_read = read-second ∙ sym read_first

      replied : side ≡ reply → read reply n ≡ read reply m
      replied x = subst (λ (y : Side). read y n ≡ read y m) x both_read

      fronted : side ≡ request → other ≡ out → front n other ≡ front m out
      fronted x o = ap (front n) o ∙ kept.fronts x n g l out

      says_same : map (shown_in m) vs ≡ map (shown_in n) vs
      says_same = accepted-shown side m read_first ∙ sym (kept.bytes n g) ∙ sym (accepted-shown side n read-second)

      parts : (x : Side) → side ≡ x → parts_same x r ≡ true
      parts request x =
          let first : requests.answer_of r.first.request ≡ accepted s i t vs k = subst (λ (y : Side). answered y m r.first ≡ accepted s i t vs k) x (reads_first side ∙ read_first) in
          let second : requests.answer_of r.second.request ≡ accepted s i t vs k = subst (λ (y : Side). answered y n r.second ≡ accepted s i t vs k) x (reads_second side ∙ read-second) in
          request-parts ∙ parts_same_lem m n request _ _ first second says_same request_parts
      parts reply x =
          let first : replies.answer_of m r.first.reply ≡ accepted s i t vs k = subst (λ (y : Side). answered y m r.first ≡ accepted s i t vs k) x (reads_first side ∙ read_first) in
          let second : replies.answer_of n r.second.reply ≡ accepted s i t vs k = subst (λ (y : Side). answered y n r.second ≡ accepted s i t vs k) x (reads_second side ∙ read-second) in
          reply-parts ∙ parts_same_lem m n reply _ _ first second says_same reply_parts

      same : Same side m n out other out' other' r
      same =
          record {
            answers = reads_second side ∙ both_read ∙ sym (reads_first side);
            parts = parts side refl;
            names = λ x. second-name ∙ nth-same c m n (replied x) ∙ sym first-name;
            name-bytes = λ x.
                name-shown
                ∙ bytes_same (shown m (nth_name c m)) (shown n (nth_name c n))
                (nth_inside c m ∙ sym (nth-bytes (subst (λ (y : Side). Kept y m s i t vs k) x kept) g l c) ∙ sym (nth_inside c n));
            acts = λ x o. q.fronts.acts ∙ ap (λ (w : FrontOutcome). w.act) (fronted x o) ∙ sym p.fronts.acts;
            buffers = λ x o. q.fronts.leaves ∙ ap (λ (w : FrontOutcome). w.buffer) (fronted x o) ∙ sym p.fronts.leaves;
          }

    module _ (j : ℕ) (l : j < k) (h : n ≡ take j m) where
      no_name : side ≡ reply → nth_name c n ≡ nothing
      no_name x =
          ap (nth_name c) h
          ∙ sym (get_d_take c (names_of (read reply (take j m))) nothing)
          ∙ ap (λ (xs : List Part). get_or xs c nothing) (sym (opened-steps (suc c) (take j m)) ∙ kept.cut-names x j l (suc c))
          ∙ none c
        where
          none : (c : ℕ) → get_or [] c nothing ≡ nothing
          none zero = refl
          none (suc c) = refl

      cut : Cut side n other other' r.second s i t vs j
      cut =
          record {
            answers = reads_second side ∙ ap (read side) h ∙ kept.cut j l;
            names = λ x. second-name ∙ no_name x;
            fronts = λ x. subst (λ (w : FrontOutcome). Fronts w other' r.second.fronted) (ap (λ (y : List ℕ). front y other) h ∙ kept.cut-front x j l other) q.fronts;
          }

  pub agreeing : Agrees m n c out other out' other' r
  agreeing =
      record {
        first = p;
        second = q;
        request-parts = request-parts ∙ ap₂ (λ (a b : Answer). same_parts request request_parts m a n b) p.request q.request;
        reply-parts = reply-parts ∙ ap₂ (λ (a b : Answer). same_parts reply reply_parts m a n b) p.reply q.reply;
        name-shown = name-shown;
        sizes = λ side e. (kept side e).size;
        same = λ side e g l. same side e g l;
        cut = λ side e j l h. cut side e j l h;
        unknown = λ x y z. let u = demand3.unknown m out x y z in (p.fronts.acts ∙ ap (λ (w : FrontOutcome). w.act) u, p.fronts.leaves ∙ ap (λ (w : FrontOutcome). w.buffer) u);
      }
