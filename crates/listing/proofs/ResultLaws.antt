-- What a `map_err` was given, by what it gave.
--     mapped_ok, mapped_err    the value as it was; the error that was mapped
-- Assumes nothing.
use mathlib.Core.Path.{◌≡◌, refl, sym, ◌∙◌, ap, subst}
use Rattle.std.specs.Prelude.{Result, Ok, Err, MatchResult}
use Rattle.std.specs.Result.{IsErrAnd}

no_value : {T E : Type 0} → Result T E → Type 0
no_value r = MatchResult r (λ _. ⊥) (λ _. Unit {0})

module _ {T E D : Type 0} (P : E → D → Type 0) (r : Result T E) {mapped : Result T D} where
  pub mapped_ok : {x : T} → MatchResult r (λ y. mapped ≡ Ok y) (λ e. IsErrAnd mapped (P e)) → mapped ≡ Ok x → r ≡ Ok x
  mapped_ok {x} m h = elim r as (λ v. MatchResult v (λ y. mapped ≡ Ok y) (λ e. IsErrAnd mapped (P e)) → v ≡ Ok x) [
    | Ok y ↦ λ k. let same : ◌≡◌ {A = Result T D} (Ok y) (Ok x) = sym k ∙ h in let v : y ≡ x = cc in ap Ok v
    | Err e ↦ λ k. absurd (subst (λ v. IsErrAnd v (P e)) h k)
  ] m

  pub mapped_err : {d : D} → MatchResult r (λ y. mapped ≡ Ok y) (λ e. IsErrAnd mapped (P e)) → mapped ≡ Err d → (e : E) × (r ≡ Err e) × P e d
  unfolding no_value
  mapped_err {d} m h = elim r as (λ v. MatchResult v (λ y. mapped ≡ Ok y) (λ e. IsErrAnd mapped (P e)) → (e : E) × (v ≡ Err e) × P e d) [
    | Ok y ↦ λ k. absurd (subst no_value (sym h ∙ k) tt)
    | Err e ↦ λ k. (e, refl, subst (λ v. IsErrAnd v (P e)) h k)
  ] m
