-- The rows of the table, in the order of the request numbers. Assumes nothing.
use mathlib.Core.Path.{◌≡◌, refl, sym, ap, ◌∙◌}
use mathlib.Core.Bool.{Bool, true, false, cond}
use mathlib.Core.List.{List, [], ◌∷◌, map}
use Prim.Native.Nat.{ℕ, ◌-◌, ◌≤◌}
use native.Mathlib.Omega.{arith}
use lib.Dec.{eqb, leb}
use lib.ListN.{length, get_or, take, replicate, length-append}
use lib.Seq.{take_at}
use borrow.Author.Tests.{leb-true}
use Rattle.text.specs.Ascii.{ascii}
use Rattle.method.specs.declared.Method.{Method}
use Rattle.method.specs.Methods.{methods, request_number, found, lookup, of_request}
use Rattle.method.proofs.Table.{request-found, request-passes}
use Rattle.method_names.specs.declared.Name.{Name}
use Rattle.method_names.specs.Names.{name_of, row_of}

-- ---- a row

pub row_fits : {r : Name} (x : Method) → r ≡ row_of x → r.1 ≤ length r.0
row_fits x e = let name = ascii (name_of x) in rw e (omega (arith, length-append name (replicate (8 - length name) 32)))

pub row-name : {r : Name} (x : Method) → r ≡ row_of x → take r.1 r.0 ≡ ascii (name_of x)
row-name x e = let name = ascii (name_of x) in rw e (take_at name (replicate (8 - length name) 32) (length name) refl)

pub row_counts : {r : Name} (x : Method) → r ≡ row_of x → r.1 ≡ length (take r.1 r.0)
row_counts x e = ap (λ (r : Name). r.1) e ∙ ap length (sym (row-name x e))

-- ---- the table

-- the numbers are 1 to 23
pub first-number : (x : Method) → 1 ≤ request_number x
first-number x = leb-true 1 (request_number x) (request-passes (λ y. leb 1 (request_number y)) refl (request_number x) (request-found x))

pub last-number : (x : Method) → request_number x ≤ 23
last-number x = leb-true (request_number x) 23 (request-passes (λ y. leb (request_number y) 23) refl (request_number x) (request-found x))

-- two functions that agree on these methods agree on the one that is found
found-agrees : {A : Type 0} (f g : Method → A) (ms : List Method) (n : ℕ) {x : Method} → map f ms ≡ map g ms → lookup request_number ms n ≡ found x → f x ≡ g x
found-agrees f g [] n h e = let z : ◌≡◌ {A = ℕ} 0 1 = cc in let none : ⊥ = omega arith in absurd none
found-agrees f g (k ∷ ks) n {x} h e = go (eqb n (request_number k)) e (found-agrees f g ks n cc)
  where
    go : (t : Bool) → cond t (found k) (lookup request_number ks n) ≡ found x → (lookup request_number ks n ≡ found x → f x ≡ g x) → f x ≡ g x
    go true e r = let i : x ≡ k = cc in let j : f k ≡ g k = cc in rw i j
    go false e r = r e

-- each row stands at its method's number
pub row_at : (d : Name) (x : Method) {n : ℕ} → n ≡ request_number x → get_or (map row_of methods) (n - 1) d ≡ row_of x
unfolding of_request
row_at d x e = rw e (found-agrees (λ y. get_or (map row_of methods) (request_number y - 1) d) row_of methods (request_number x) refl (request-found x))
