-- What passes for every row of the table passes for the plan of every type. Assumes nothing.
use mathlib.Core.Path.{◌≡◌, refl}
use mathlib.Core.Bool.{Bool, true, false, cond}
use Prim.Native.Nat.{ℕ}
use lib.Dec.{eqb}
use Rattle.method.specs.Methods.{methods, Found, found, unknown as no-method, of_request, of_reply}
use Rattle.method.proofs.Table.{all_pass, request-passes, reply-passes}
use Rattle.layout.specs.Kinds.{kinds}
use Rattle.layout.specs.Table.{Side, request, reply, unknown_response, Plan, unexpected, header, asked, plan_of, row, request_plan, reply_plan, plan}

module _ (p : Plan → Bool) (u : p unexpected ≡ true) (h : p header ≡ true) (q : all_pass (λ y. p (asked (kinds (row y).request))) methods ≡ true)
    (r : all_pass (λ y. p (plan_of (row y).reply)) methods ≡ true) where
  pub every-plan : (side : Side) (t : ℕ) → p (plan side t) ≡ true
  unfolding plan
  every-plan request t = go (of_request t) refl
    where
      go : (f : Found) → of_request t ≡ f → p (request_plan f) ≡ true
      go (found x) e = request-passes (λ y. p (asked (kinds (row y).request))) q t e
      go no-method e = h
  every-plan reply t = go (eqb t unknown_response) (of_reply t) refl
    where
      found-passes : (f : Found) → of_reply t ≡ f → p (reply_plan f) ≡ true
      found-passes (found x) e = reply-passes (λ y. p (plan_of (row y).reply)) r t e
      found-passes no-method e = u

      go : (b : Bool) (f : Found) → of_reply t ≡ f → p (cond b header (reply_plan f)) ≡ true
      go true f e = h
      go false f e = found-passes f e
