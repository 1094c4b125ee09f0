-- Which reply types have a result: those of access to utimens. Assumes nothing.
use mathlib.Core.Path.{◌≡◌, refl}
use mathlib.Core.Bool.{Bool, true, false}
use mathlib.Core.List.{List}
use Prim.Native.Nat.{ℕ, ◌-◌, ◌≤◌, ◌<◌}
use native.Mathlib.Decide.{dec_lt}
use native.Mathlib.Omega.{arith}
use borrow.Author.Tests.{ne_eqb}
use Rattle.method.specs.declared.Method.TheVariants.{Access, Utimens, Getcreds}
use Rattle.method.specs.Methods.{Found, unknown as no-method, reply_offset, reply_number, of_request, of_reply}
use Rattle.method.proofs.Table.{at_each, reply-below, reply-as-request, request-above}
use Rattle.layout.specs.Kinds.{Kind}
use Rattle.layout.specs.Table.{reply, unknown_response, HasResult, Plan, unexpected, header, asked, plain, led, plan}
use Rattle.layout.specs.Reading.{failure}
use Rattle.layout.specs.Writing.{has_shape}
use Rattle.layout.proofs.Tests.{apart}

abbrev is_led : Plan → Bool
is_led unexpected = false
is_led header = false
is_led (asked ks) = false
is_led (plain ks) = false
is_led (led c ks) = true

pub record Led (t : ℕ) : Type 0 where
  pub count : Bool
  pub kinds : List Kind
  pub is : plan reply t ≡ led count kinds

module _ (t : ℕ) (h : HasResult t) where
  tested : is_led (plan reply t) ≡ true
  unfolding plan of_reply
  tested = at_each (λ k. is_led (plan reply k)) (reply_number Access) 22 t refl h.0 (omega (arith, h.1))

  pub led-type : Led t
  led-type = go (plan reply t) refl tested
    where
      go : (p : Plan) → plan reply t ≡ p → is_led p ≡ true → Led t
      go unexpected e h = apart h
      go header e h = apart h
      go (asked ks) e h = apart h
      go (plain ks) e h = apart h
      go (led c ks) e h = record { count = c; kinds = ks; is = e }

-- ---- a type below the unknown response's or above that of getcreds is no reply's

pub unexpected-below : (t : ℕ) → t < unknown_response → plan reply t ≡ unexpected
unfolding plan
unexpected-below t h = rw (ne_eqb t unknown_response (λ e. omega arith), reply-below t h)

pub unexpected-above : (t : ℕ) → reply_number Getcreds < t → plan reply t ≡ unexpected
unfolding plan
unexpected-above t h = rw (ne_eqb t unknown_response (λ e. omega arith), reply-as-request t (omega arith), request-above (t - reply_offset) (omega arith))

-- ---- a type that has no result is no failure's

abbrev fails : ℕ → Bool
fails t = has_shape (plan reply t) failure

response-no-failure : fails unknown_response ≡ false
unfolding plan
response-no-failure = refl

getcreds-no-failure : fails (reply_number Getcreds) ≡ false
unfolding plan of_reply
getcreds-no-failure = refl

pub no-failure-below : (t : ℕ) → t < reply_number Access → has_shape (plan reply t) failure ≡ false
no-failure-below t h = go (dec_lt t unknown_response)
  where
    go : Dec (t < unknown_response) → has_shape (plan reply t) failure ≡ false
    go (yes b) = rw (unexpected-below t b)
    go (no b) = let e : t ≡ unknown_response = omega arith in rw e response-no-failure

pub no-failure-above : (t : ℕ) → reply_number Utimens < t → has_shape (plan reply t) failure ≡ false
no-failure-above t h = go (dec_lt (reply_number Getcreds) t)
  where
    go : Dec (reply_number Getcreds < t) → has_shape (plan reply t) failure ≡ false
    go (yes b) = rw (unexpected-above t b)
    go (no b) = let e : t ≡ reply_number Getcreds = omega arith in rw e getcreds-no-failure
