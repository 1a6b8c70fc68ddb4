-- One level of the choice of premises: what a loop over the premises for a class adds.
use Rattle.std.proofs.Common.{◌≡◌, ℕ, zero, ◌+◌, ◌<◌, ◌≤◌, ◌⊎◌, List, length, get_or, None, Bool, false, Decides, sym, ap, ◌∙◌, subst, ⊎_elim, arith}
use Rattle.std.proofs.lemmas.Bool.Decides.{not_from_Decides}
use Rattle.terms.specs.Sets.{join, without}
use Rattle.closure.specs.Closures.{Context, plain, clause, Head, rising}
use Rattle.tables.specs.Entering.{Holds, Kept, Entered}
use Rattle.tables.specs.Tables.{Tables, Member, a_clause, context_in, clause_of, Good}
use Rattle.tables.specs.Adding.{Adds, Stuck, Below}
use Rattle.tables.specs.declared.records.ContextRecord.{ContextRecord}
use Rattle.tables.specs.declared.records.ClauseRecord.{ClauseRecord}
use Rattle.tables.specs.declared.members.Counts.{Counts}
use Rattle.tables.specs.declared.lent.LentTables.{LentTables}
use Rattle.tables.specs.Lent.{SameLent, ContextsKept}
use Rattle.tables.proofs.Slots.{among_kept, holds_kept, holds_back, holds_get_or}
use Rattle.tables.proofs.Entries.{entered_fits, entered_extends}
use Rattle.tables.proofs.Lending.{same_then, kept_then}
use Rattle.tables.proofs.Additions.{adds_as, adds_none, stuck_as, below_upto, below_skip}
use Rattle.tables.specs.Records.{lone}
use Rattle.saturation.specs.Choices.{Listed, Premise, Picks, Pick}
use Rattle.saturation.proofs.Picks.{lone_same, picks_none, picks_zero, picks_below, below_picks}

-- the given clause stands in its slot, which is used, and the used slots are there
pub record Room (slot : ℕ) (x : ClauseRecord) (n : Counts) (xs : List ClauseRecord) : Type 0 where
  pub used : slot < n.clauses
  pub fits : n.clauses ≤ length xs
  pub holds : Holds xs slot x
  pub lonely : x.part ≡ None

-- what a loop over the premises keeps: the clause stood in its slot when the loop began, and stands there now; only clauses were added
pub record Choosing (slot : ℕ) (x : ClauseRecord) (entry before after : LentTables) : Type 0 where
  pub room : Room slot x before.counts before.clauses.now
  pub now : Room slot x after.counts after.clauses.now
  pub same : SameLent entry after
  pub kept : ContextsKept entry after
  pub cited : x.context < after.counts.contexts

room_entered : {slot at : ℕ} {n : Counts} (m : Counts) {xs ys : List ClauseRecord} {x y : ClauseRecord} → Room slot x n xs → Entered xs n.clauses y ys at m.clauses → Room slot x m ys
room_entered m r e = record {
  used = omega (arith, r.used, (entered_extends e).more);
  fits = entered_fits r.fits e;
  holds = holds_kept (entered_extends e).kept r.used r.holds;
  lonely = r.lonely;
}

module _ {slot : ℕ} {x : ClauseRecord} {entry before after : LentTables} (c : Choosing slot x entry before after) where
  -- the next loop begins
  pub choosing_start : Choosing slot x entry after after
  choosing_start = record { room = c.now; now = c.now; same = c.same; kept = c.kept; cited = c.cited }

  -- it has ended
  pub choosing_then : {then : LentTables} → Choosing slot x entry after then → Choosing slot x entry before then
  choosing_then d = record { room = c.room; now = d.now; same = d.same; kept = d.kept; cited = d.cited }

  -- a clause was entered
  pub choosing_entered : {at : ℕ} {y : ClauseRecord} (then : LentTables) → SameLent after then → ContextsKept after then
      → Entered after.clauses.now after.counts.clauses y then.clauses.now at then.counts.clauses → Choosing slot x entry before then
  choosing_entered then s k e = record {
    room = c.room;
    now = room_entered then.counts c.now e;
    same = same_then c.same s;
    kept = kept_then c.kept k;
    cited = omega (arith, k.used, c.cited);
  }

-- where the contexts were kept, a record means what it meant
module _ {xs zs : List ContextRecord} (x : ClauseRecord) {s u : Tables} (kept : zs ≡ xs) where
  pub adds_kept : Adds (λ m. m ≡ a_clause (clause_of zs x)) s u → Adds (λ m. m ≡ a_clause (clause_of xs x)) s u
  adds_kept p = subst (λ (us : List ContextRecord). Adds (λ m. m ≡ a_clause (clause_of us x)) s u) kept p

  pub stuck_kept : Stuck (λ m. m ≡ a_clause (clause_of zs x)) s u → Stuck (λ m. m ≡ a_clause (clause_of xs x)) s u
  stuck_kept p = subst (λ (us : List ContextRecord). Stuck (λ m. m ≡ a_clause (clause_of us x)) s u) kept p

lone_is : (x : ClauseRecord) → x.part ≡ None → x ≡ lone x.context x.classes.bits
lone_is x l = λ i. record { context = x.context; classes = x.classes; part = l i }

-- a list that begins alike lists alike
pub kept_back : {xs ys : List ClauseRecord} {n : ℕ} → Kept xs ys n → Kept ys xs n
kept_back k = record { same = λ i l d. sym (k.same i l d) }

pub listed_kept : {xs ys : List ClauseRecord} {n k h : ℕ} {Ts : List ℕ} → Kept xs ys k → n ≤ k → Listed xs n h Ts → Listed ys n h Ts
listed_kept k l t = record { from = λ D a. t.from D (among_kept (kept_back k) l a); to = λ D i. among_kept k l (t.to D i) }

-- what a loop over the premises knows, when it has added some C
module _ {slot : ℕ} {x : ClauseRecord} {s u : Tables} {C : Member → Type 0} (room : Room slot x s.used s.clauses) (i : Adds C s u) where
  pub now_listed : {h : ℕ} {Ts : List ℕ} → Listed s.clauses (slot + 1) h Ts → Listed u.clauses (slot + 1) h Ts
  now_listed t = listed_kept i.grows.clauses.kept (omega (arith, room.used)) t

  -- what a slot below holds now, it held when the loop began
  pub now_held : {k : ℕ} (d : ClauseRecord) → k < slot + 1 → Holds s.clauses k (get_or u.clauses k d)
  now_held {k} d l = holds_back i.grows.clauses.kept (omega (arith, room.used)) (holds_get_or u.clauses k d (omega (arith, room.used, room.fits, i.grows.clauses.size)))

-- a clause that cannot be the premise is passed over
pub passed : {slot k : ℕ} {x : ClauseRecord} {s u : Tables} {H : Context} {Ts : List ℕ} {h a D c L S : ℕ} → Room slot x s.used s.clauses → Adds (Below s.clauses k (Pick H Ts h a D c L S)) s u → (y : ClauseRecord) → k < slot + 1
    → {b : Bool} → Decides b (Premise h a D c (get_or u.clauses k y)) → b ≡ false → Adds (Below s.clauses (k + 1) (Pick H Ts h a D c L S)) s u
passed room i y l decides e = below_skip (now_held room i y l) i (λ m q. not_from_Decides _ decides e q.premise)

module _ {H : Context} {Ts : List ℕ} {h a D : ℕ} where
  -- before the first premise nothing is given: for its own head the given clause is the only one, and it stands in one slot
  pub none_before : {s : Tables} {c L S slot from : ℕ} (x : ClauseRecord) → x.context ≡ h → x.classes.bits ≡ D → Good s → Room slot x s.used s.clauses
      → ((c ≡ a → ⊥) × (from ≡ 0)) ⊎ ((c ≡ a) × (from ≡ slot))
      → Adds (Below s.clauses from (Pick H Ts h a D c L S)) s s
  none_before {s = s} {c = c} {L = L} {S = S} {slot = slot} {from = from} x of bits good room way = adds_none good (λ m b. ⊎_elim (λ w. let l = b.among.below in let e = w.1 in omega arith) (λ w. twice m b w.0 w.1) way)
    where
      is : x ≡ lone h D
      is = lone_is x room.lonely ∙ ap (λ k. lone k x.classes.bits) of ∙ ap (lone h) bits

      twice : (m : Member) (b : Below s.clauses from (Pick H Ts h a D c L S) m) → c ≡ a → from ≡ slot → ⊥
      twice m b same e =
          good.clauses_apart b.among.slot slot (let l = b.among.below in omega arith) room.used x
          (subst (λ y. Holds s.clauses b.among.slot y) (lone_same b.gives.premise ∙ ap (lone h) (b.gives.premise.only_given same) ∙ sym is) b.among.holds)
          room.holds

  module _ {L S S' c : ℕ} {y : ClauseRecord} (more : S' ≡ join S (without y.classes.bits c)) (premise : Premise h a D c y) where
    pick_of : (m : Member) → Picks H Ts a D L S' m → Pick H Ts h a D c L S y m
    pick_of m p = record { premise = premise; picks = subst (λ z. Picks H Ts a D L z m) more p }

    of_pick : (m : Member) → Pick H Ts h a D c L S y m → Picks H Ts a D L S' m
    of_pick m p = subst (λ z. Picks H Ts a D L z m) (sym more) p.picks

    -- classes are left, and the loop for the next one has ended
    module _ {clauses : List ClauseRecord} {n N c' : ℕ} (listed : Listed clauses n h Ts) (top : Head rising L c') (left : N ≡ without L c') {s u : Tables} where
      pub level_adds : {k : ℕ} → k ≤ n → n ≤ k → Adds (Below clauses k (Pick H Ts h a D c' N S')) s u → Adds (Pick H Ts h a D c L S y) s u
      level_adds l g p = adds_as p (λ m q. below_upto g (picks_below listed top left m (of_pick m q))) (λ m b. pick_of m (below_picks listed top left m (below_upto l b)))

      pub level_stuck : Stuck (Below clauses n (Pick H Ts h a D c' N S')) s u → Stuck (Pick H Ts h a D c L S y) s u
      level_stuck p = stuck_as p (λ m b. pick_of m (below_picks listed top left m b))

  -- the whole choice
  module _ {clauses : List ClauseRecord} {n c L N S : ℕ} (listed : Listed clauses n h Ts) (top : Head rising L c) (left : N ≡ without L c) {s u : Tables} where
    pub whole_adds : {k : ℕ} → k ≤ n → n ≤ k → Adds (Below clauses k (Pick H Ts h a D c N S)) s u → Adds (Picks H Ts a D L S) s u
    whole_adds l g p = adds_as p (λ m q. below_upto g (picks_below listed top left m q)) (λ m b. below_picks listed top left m (below_upto l b))

    pub whole_stuck : Stuck (Below clauses n (Pick H Ts h a D c N S)) s u → Stuck (Picks H Ts a D L S) s u
    whole_stuck p = stuck_as p (λ m b. below_picks listed top left m b)

-- no class is left, and the record of what was gathered was entered
module _ (xs : List ContextRecord) {Ts : List ℕ} {h a D L S S' c : ℕ} (y : ClauseRecord) {x : ClauseRecord} (is : x ≡ lone h S') (more : S' ≡ join S (without y.classes.bits c)) (premise : Premise h a D c y) (none : L ≡ zero) where
  gathered : (m : Member) → m ≡ a_clause (clause_of xs x) → Pick (context_in xs h) Ts h a D c L S y m
  gathered m e = record { premise = premise; picks = subst (λ z. Picks (context_in xs h) Ts a D z (join S (without y.classes.bits c)) m) (sym none) (picks_none (e ∙ ap (λ z. a_clause (clause_of xs z)) is ∙ ap (λ z. a_clause (clause (context_in xs h) z plain)) more)) }

  pub last_adds : {zs : List ContextRecord} {s u : Tables} → zs ≡ xs → Adds (λ m. m ≡ a_clause (clause_of zs x)) s u → Adds (Pick (context_in xs h) Ts h a D c L S y) s u
  last_adds kept p = adds_as (adds_kept x kept p) (λ m q. picks_zero none q.picks ∙ ap (λ z. a_clause (clause (context_in xs h) z plain)) (sym more) ∙ ap (λ z. a_clause (clause_of xs z)) (sym is)) gathered

  pub last_stuck : {zs : List ContextRecord} {s u : Tables} → zs ≡ xs → Stuck (λ m. m ≡ a_clause (clause_of zs x)) s u → Stuck (Pick (context_in xs h) Ts h a D c L S y) s u
  last_stuck kept p = stuck_as (stuck_kept x kept p) gathered
