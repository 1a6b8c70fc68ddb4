-- A choice of premises for an inclusion, one class after another from the highest down.
use Rattle.std.proofs.Common.{◌≡◌, ℕ, zero, List, [], ◌∷◌, sym, refl, ap, ◌∙◌, subst, inr, ⊎_elim}
use mathlib.Core.List.Memᴰ
use mathlib.Core.List.{Memᴰ}
use Rattle.terms.specs.Sets.{Has, join, without}
use Rattle.terms.proofs.Masks.{join_assoc, join_none_r, highest_unique, zero_none, without_of, without_cases}
use Rattle.closure.specs.Closures.{Context, plain, Clause, clause, Head, rising, Chosen, none_left, take}
use Rattle.tables.specs.Entering.{Among}
use Rattle.tables.specs.Tables.{Member, a_clause}
use Rattle.tables.specs.Adding.{Below}
use Rattle.tables.specs.declared.records.ClauseRecord.{ClauseRecord}
use Rattle.saturation.specs.Conclusions.{PartBrings, Brings, Brought, Chooses}
use Rattle.tables.specs.Records.{lone}
use Rattle.saturation.specs.Choices.{Listed, Premise, Picks, Pick}

pub lone_same : {h a D c : ℕ} {y : ClauseRecord} → Premise h a D c y → y ≡ lone h y.classes.bits
lone_same {y = y} p = let e = p.within in let l = p.lonely in λ i. record { context = e i; classes = y.classes; part = l i }

module _ {H : Context} {Ts : List ℕ} {a D : ℕ} where
  pub picks_none : {S : ℕ} {m : Member} → m ≡ a_clause (clause H S plain) → Picks H Ts a D zero S m
  picks_none {S} e = record { sets = []; rest = zero; chosen = none_left; each = λ E i. absurd (Memᴰ.not-nil i); is = e ∙ ap (λ T. a_clause (clause H T plain)) (sym (join_none_r S)) }

  pub picks_zero : {S L : ℕ} {m : Member} → L ≡ zero → Picks H Ts a D L S m → m ≡ a_clause (clause H S plain)
  picks_zero {S} {L} {m} z p = go p.chosen z p.is
    where
      go : {L E : ℕ} {sets : List ℕ} → Chosen rising L sets E → L ≡ zero → m ≡ a_clause (clause H (join S E) plain) → m ≡ a_clause (clause H S plain)
      go none_left z e = e ∙ ap (λ T. a_clause (clause H T plain)) (join_none_r S)
      go (take c l d r) z e = absurd (zero_none c (subst (λ s. Has s c) z l.0))

  module _ {clauses : List ClauseRecord} {n h c L N S : ℕ} (listed : Listed clauses n h Ts) (top : Head rising L c) (left : N ≡ without L c) where
    pub picks_below : (m : Member) → Picks H Ts a D L S m → Below clauses n (Pick H Ts h a D c N S) m
    picks_below m p = subst (λ z. Below clauses n (Pick H Ts h a D c z S) m) (sym left) (go p.chosen top p.each p.is)
      where
        go : {L E : ℕ} {sets : List ℕ} → Chosen rising L sets E → Head rising L c → ((F : ℕ) → Memᴰ F sets → Memᴰ F Ts × (Head rising F a → F ≡ D))
            → m ≡ a_clause (clause H (join S E) plain) → Below clauses n (Pick H Ts h a D c (without L c) S) m
        go none_left t each e = absurd (zero_none c t.0)
        go (take {L = L} {D = F} {E = E} {Ds = sets} b l d r) t each e =
            let same : b ≡ c = highest_unique L b c l t in
            record {
              by = lone h F;
              among = listed.to F (each F (Memᴰ.head refl)).0;
              gives = record {
                premise = record { within = refl; lonely = refl; head = subst (λ z. Head rising F z) same d; only_given = λ q. (each F (Memᴰ.head refl)).1 (subst (λ z. Head rising F z) (same ∙ q) d) };
                picks = record {
                  sets = sets;
                  rest = E;
                  chosen = subst (λ z. Chosen rising (without L z) sets E) same r;
                  each = λ G i. each G (Memᴰ.tail i);
                  is = e ∙ ap (λ T. a_clause (clause H T plain)) (ap (λ z. join S (join (without F z) E)) same ∙ sym (join_assoc S (without F c) E));
                };
              };
            }

    pick_picks : (y : ClauseRecord) (m : Member) → Among clauses n y → Pick H Ts h a D c N S y m → Picks H Ts a D L S m
    pick_picks y m among p = record {
      sets = y.classes.bits ∷ p.picks.sets;
      rest = join (without y.classes.bits c) p.picks.rest;
      chosen = take c top p.premise.head (subst (λ z. Chosen rising z p.picks.sets p.picks.rest) left p.picks.chosen);
      each = λ E i. ⊎_elim
          (λ e. (
            listed.from E (subst (λ z. Among clauses n z) (lone_same p.premise ∙ ap (lone h) (sym e)) among),
            λ q. e ∙ p.premise.only_given (highest_unique y.classes.bits c a p.premise.head (subst (λ z. Head rising z a) e q)),
          ))
          (p.picks.each E)
          (Memᴰ.cases_cons i);
      is = p.picks.is ∙ ap (λ T. a_clause (clause H T plain)) (join_assoc S (without y.classes.bits c) p.picks.rest);
    }

    pub below_picks : (m : Member) → Below clauses n (Pick H Ts h a D c N S) m → Picks H Ts a D L S m
    below_picks m b = pick_picks b.by m b.among b.gives

-- ---- a whole choice

chosen_class : {L E : ℕ} {sets : List ℕ} (D a : ℕ) → Chosen rising L sets E → Memᴰ D sets → Head rising D a → Has L a
chosen_class D a none_left i h = absurd (Memᴰ.not-nil i)
chosen_class D a (take {L = L} {D = F} b l d r) i h =
    ⊎_elim
    (λ e. subst (λ z. Has L z) (highest_unique F b a d (subst (λ z. Head rising z a) e h)) l.0)
    (λ j. (without_of L b a (chosen_class D a r j h)).0)
    (Memᴰ.cases_cons i)

-- each class has one set
chosen_one : {L E : ℕ} {sets : List ℕ} (D F a : ℕ) → Chosen rising L sets E → Memᴰ D sets → Memᴰ F sets → Head rising D a → Head rising F a → D ≡ F
chosen_one D F a none_left i j h g = absurd (Memᴰ.not-nil i)
chosen_one D F a (take {L = L} {D = T} {Ds = sets} b l d r) i j h g =
    ⊎_elim
    (λ e. ⊎_elim (λ f. e ∙ sym f) (λ k. absurd (apart D F e h k g)) (Memᴰ.cases_cons j))
    (λ k. ⊎_elim (λ f. absurd (apart F D f g k h)) (λ k'. chosen_one D F a r k k' h g) (Memᴰ.cases_cons j))
    (Memᴰ.cases_cons i)
  where
    apart : (E G : ℕ) → E ≡ T → Head rising E a → Memᴰ G sets → Head rising G a → ⊥
    apart E G e p k q = (without_of L b a (chosen_class G a r k q)).1 (sym (highest_unique T b a d (subst (λ z. Head rising z a) e p)))

-- a class of L has its set
chosen_has : {L E : ℕ} {sets : List ℕ} (a : ℕ) → Chosen rising L sets E → Has L a → (D : ℕ) × Memᴰ D sets × Head rising D a
chosen_has a none_left h = absurd (zero_none a h)
chosen_has a (take {L = L} {D = F} b l d r) h = ⊎_elim
    (λ e. (F, Memᴰ.head refl, subst (λ z. Head rising F z) (sym e) d))
    (λ k. let t = chosen_has a r k in (t.0, Memᴰ.tail t.1, t.2))
    (without_cases L b a h)

-- where the given clause has the head a, the choices with it are those that take it for a
module _ {H : Context} {Ts : List ℕ} {a D L M : ℕ} (top : Head rising D a) where
  pub picks_chooses : Has L a → (m : Member) → Picks H Ts a D L M m → Brought (Chooses H Ts D L M) m
  picks_chooses l m p =
      let t = chosen_has a p.chosen l in
      record {
        by = clause H (join M p.rest) plain;
        follows = record { sets = p.sets; rest = p.rest; chosen = p.chosen; each = λ E i. (p.each E i).0; given = subst (λ z. Memᴰ z p.sets) ((p.each t.0 t.1).1 t.2) t.1; is = refl };
        brings = inr p.is;
      }

  pub chooses_picks : (m : Member) → Brought (Chooses H Ts D L M) m → Picks H Ts a D L M m
  chooses_picks m b =
      let p = b.follows in
      record {
        sets = p.sets;
        rest = p.rest;
        chosen = p.chosen;
        each = λ E i. (p.each E i, λ h. chosen_one E D a p.chosen i p.given h top);
        is = brought_is b.by p.is b.brings;
      }
    where
      brought_is : {S : ℕ} (d : Clause) → d ≡ clause H S plain → Brings d m → m ≡ a_clause (clause H S plain)
      brought_is d e w = ⊎_elim (λ z. absurd (subst (λ x. PartBrings x m) (ap (λ (x : Clause). x.part) e) z)) (λ q. q ∙ ap a_clause e) w

  -- no clause is chosen for a class that is not there
  pub chooses_class : (d : Clause) → Chooses H Ts D L M d → Has L a
  chooses_class d p = chosen_class D a p.chosen p.given top
