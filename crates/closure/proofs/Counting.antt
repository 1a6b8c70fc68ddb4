-- The number of members is one number, and there are not more members than that.
use Rattle.std.proofs.Common.{◌≡◌, ℕ, ◌<◌, arith}
use Rattle.closure.specs.Closures.{InContexts, InClauses}
use Rattle.closure.specs.Counts.{Exactly, More, CountRight, Counted}
use Rattle.closure.proofs.Lists.{pigeon}

module _ {A : Type 0} (P : A → Type 0) where
  one_number : (m n : ℕ) → Exactly m P → Exactly n P → m ≡ n
  one_number m n a b =
      omega (arith, pigeon a.0 b.0 a.2 (λ x h. (b.1 x).0 ((a.1 x).1 h)), pigeon b.0 a.0 b.2 (λ x h. (a.1 x).0 ((b.1 x).1 h)), a.3, b.3)

  above : (m n : ℕ) → Exactly m P → More P n → n < m
  above m n a b = omega (arith, pigeon b.0 a.0 b.2 (λ x h. (a.1 x).0 (b.1 x h)), a.3, b.3)

  pub count_right : CountRight P
  count_right = record {
    one_number = one_number;
    exclude = λ n a b. let l = above n n a b in omega arith;
    above = λ m n a. (above m n a, λ l. (a.0, (λ x h. (a.1 x).1 h), a.2, omega (arith, a.3)));
  }

pub counted : Counted
counted rank axs G = (count_right (InContexts rank axs G), count_right (InClauses rank axs G))
