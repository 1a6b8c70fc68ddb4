-- The verdict on a finite closure is right, and so it is the same for every order.
use Rattle.std.proofs.Common.{ℕ, zero, List, subst}
use Rattle.terms.specs.declared.axioms.Axiom.{Axiom}
use Rattle.worlds.specs.Worlds.{Possible}
use Rattle.closure.specs.Closures.{Context, plain, clause, goal, Refuted, none, some}
use Rattle.closure.specs.Soundness.{Fits}
use Rattle.closure.specs.Canonical.{Injective}
use Rattle.closure.specs.Verdicts.{Finite, VerdictRight, OneVerdict}
use Rattle.closure.proofs.Decisions.{dec_map, sure}
use Rattle.closure.proofs.Equality.{dec_listed}
use Rattle.closure.proofs.Tables.{tabled_closed}
use Rattle.closure.proofs.Truths.{sound}
use Rattle.closure.proofs.Existence.{complete}

module _ (rank : ℕ → ℕ) (apart : Injective rank) (axs : List Axiom) (G : Context) (finite : Finite rank axs G) where
  dec_refuted : Dec (Refuted rank axs G)
  dec_refuted = dec_map (finite.2.1 (clause G zero plain)).1 (finite.2.1 (clause G zero plain)).0 (dec_listed finite.1 (clause G zero plain))

  possible : (Refuted rank axs G → ⊥) → Possible axs G.held G.denied
  possible n =
      let t = finite.2 in
      let closed = tabled_closed rank axs G finite.0 finite.1 t in
      let s = complete rank apart axs G finite.0 finite.1 closed ((t.0 G).0 goal) (λ m. n ((t.1 (clause G zero plain)).1 m)) in
      let fits = subst (λ H. Fits s.0 0 H) s.2.goal_first (s.2.fits 0 s.2.some_element) in
      (s.0, s.2.obeys, 0, s.2.some_element, fits.0, fits.1)

  refuted : (Possible axs G.held G.denied → ⊥) → Refuted rank axs G
  refuted n = sure dec_refuted (λ f. n (possible f))

pub verdict_right : VerdictRight
verdict_right rank apart axs G finite =
    ((λ h. sound rank axs G h, refuted rank apart axs G finite), (possible rank apart axs G finite, λ p h. sound rank axs G h p))

pub one_verdict : OneVerdict
one_verdict rank other apart apart' axs G finite finite' none =
    (λ h. refuted other apart' axs G finite' (sound rank axs G h), λ h. refuted rank apart axs G finite (sound other axs G h))
one_verdict rank other apart apart' axs G finite finite' some =
    (λ n h. n (refuted rank apart axs G finite (sound other axs G h)), λ n h. n (refuted other apart' axs G finite' (sound rank axs G h)))
