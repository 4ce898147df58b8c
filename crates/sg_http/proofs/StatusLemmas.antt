-- What holds of each status of a reply, by trying them all.
use Rattle.std.proofs.Common.{◌≡◌, ℕ, true, false, ◌⊎◌, inl, inr, length, refl, sym, subst, arith}
use Rattle.std.specs.Prelude.{◌==◌, decimal}
use Rattle.std.specs.Fmt.{digits}
use Rattle.std.specs.List.{list_all}
use Rattle.std.specs.Char.{is_ascii_digit}
use Rattle.std.specs.Str.Parse.{digits_value}
use Rattle.std.proofs.lemmas.Bool.{cases_Bool, eqb-true}
use Rattle.httparse.specs.Grammar.{is_value_byte}
use Rattle.sg_http.specs.Texts.{reason, IsStatus, status_line}
use Rattle.sg_http.proofs.LineLemmas.{is_clean}

pub record IsGoodStatus (s : ℕ) : Type 0 where
  pub three : length (decimal s) ≡ 3
  pub digits : list_all is_ascii_digit (decimal s) ≡ true
  pub value : digits_value 10 (decimal s) ≡ s
  pub phrase : list_all is_value_byte (reason s) ≡ true
  pub clean : is_clean (status_line s) ≡ true

tried : (s k : ℕ) → IsGoodStatus k → ((s == k) ≡ false → IsGoodStatus s) → IsGoodStatus s
tried s k here other = by_test (cases_Bool (s == k))
  where
    by_test : ((s == k) ≡ true) ⊎ ((s == k) ≡ false) → IsGoodStatus s
    by_test (inl same) = subst IsGoodStatus (sym (eqb-true s k same)) here
    by_test (inr not_same) = other not_same

pub good_status : (s : ℕ) → IsStatus s → IsGoodStatus s
unfolding reason digits
good_status s is =
    tried s 200 (record { three = refl; digits = refl; value = refl; phrase = refl; clean = refl }) (λ a.
    tried s 400 (record { three = refl; digits = refl; value = refl; phrase = refl; clean = refl }) (λ b.
    tried s 403 (record { three = refl; digits = refl; value = refl; phrase = refl; clean = refl }) (λ c.
    tried s 404 (record { three = refl; digits = refl; value = refl; phrase = refl; clean = refl }) (λ d.
    tried s 405 (record { three = refl; digits = refl; value = refl; phrase = refl; clean = refl }) (λ e.
    tried s 409 (record { three = refl; digits = refl; value = refl; phrase = refl; clean = refl }) (λ f.
    tried s 411 (record { three = refl; digits = refl; value = refl; phrase = refl; clean = refl }) (λ g.
    tried s 413 (record { three = refl; digits = refl; value = refl; phrase = refl; clean = refl }) (λ h.
    tried s 416 (record { three = refl; digits = refl; value = refl; phrase = refl; clean = refl }) (λ i.
    tried s 422 (record { three = refl; digits = refl; value = refl; phrase = refl; clean = refl }) (λ j.
    tried s 431 (record { three = refl; digits = refl; value = refl; phrase = refl; clean = refl }) (λ k.
    tried s 501 (record { three = refl; digits = refl; value = refl; phrase = refl; clean = refl }) (λ l.
    tried s 503 (record { three = refl; digits = refl; value = refl; phrase = refl; clean = refl }) (λ m.
    tried s 507 (record { three = refl; digits = refl; value = refl; phrase = refl; clean = refl }) (λ n.
    let none = rw (a, b, c, d, e, f, g, h, i, j, k, l, m, n) at is in absurd (omega arith)))))))))))))))
