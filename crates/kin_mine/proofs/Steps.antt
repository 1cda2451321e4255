-- Lane after lane: what is done so far, what is owed, and who is marked.
use Rattle.std.proofs.Common.{◌≡◌, ◌<◌, ◌≤◌, ◌+◌, ◌∙◌, ◌||◌, ◌⊎◌, inl, inr, ⊎_elim, ℕ, zero, suc, Bool, true, false, eqb, add-one, map, List, [], ◌∷◌, Option, Some, None, length, get_or, set, arith, refl, sym, ap, subst}
use Rattle.std.specs.Prelude.{slice_get}
use Rattle.std.specs.List.{list_any}
use Rattle.std.proofs.lemmas.Bool.{cases_lt, eqb-true, eqb-false, or_right}
use Rattle.std.proofs.lemmas.List.{get_or-map, get_or-set_same, get_or-set_other, get_or_default, get_or_past, length-map, length-set, map-set, set-get_or}
use Rattle.std.proofs.Math.Seq.{map-set_same}
use Rattle.std.proofs.lemmas.Option.{slice_get_within, slice_get-get_or}
use Rattle.kin_ids.specs.declared.ids.User.{User}
use Rattle.kin_ids.specs.Parts.{PartView}
use Rattle.kin_push.specs.Facts.{On, to_read}
use Rattle.kin_push.specs.States.{IsPushState, IsQuiet, PushState, is_active, state}
use Rattle.kin_rules.specs.declared.columns.Column.{Column}
use Rattle.kin_rules.specs.Columns.{column_of, columns_of}
use Rattle.kin_rules.specs.Places.{place}
use Rattle.kin_rules.specs.Results.{ColumnView, no_column}
use Rattle.kin_mine.proofs.Columns.{any-at, false-any, quiet-places}
use Rattle.kin_mine.specs.declared.walk_rules.Distance.{Distance}
use Rattle.kin_mine.specs.Lanes.{AreAllDone, AreDone, KeepsOn, Lanes, lane, lanes, marked_in, no_user, owed_in}
use Rattle.kin_mine.specs.Marks.{AreOn, AreStates, are_quiet, is_marked, rule_of}

abbrev pub Lane : Type 1
Lane = User → PushState → PushState → Type 0

some-one : (a b : User) → Some a ≡ Some b → a ≡ b
some-one a b e = cc

-- nothing is done yet
pub begun : (P : Lane) (landmarks users : List User) (old : Lanes) → AreDone P 0 landmarks users old old
begun P landmarks users old = record { columns_are = refl; marks_are = refl; others = λ i. refl; done = λ i l lt e. absurd (omega (arith, lt)); rest = λ i le. (refl, refl) }

-- what is done implies
pub weaker : (P Q : Lane) (n : ℕ) (landmarks users : List User) (old new : Lanes) → ((l : User) (a b : PushState) → P l a b → Q l a b) → AreDone P n landmarks users old new → AreDone Q n landmarks users old new
weaker P Q n landmarks users old new implies d = record { columns_are = d.columns_are; marks_are = d.marks_are; others = d.others; done = λ i l lt e. implies l _ _ (d.done i l lt e); rest = d.rest }

module _ (P : Lane) (n : ℕ) (landmarks users : List User) (old mid : Lanes) (d : AreDone P n landmarks users old mid) where
  -- the next lane is as it was
  pub next-lane : lane users mid n ≡ lane users old n
  next-lane = let r = d.rest n (omega arith) in rw (r.0, r.1) refl

  module _ (l : User) (is : slice_get landmarks n ≡ Some l) (c : ColumnView) (on : List Bool) (column_lt : n < length mid.columns) (mark_lt : n < length mid.marks)
      (alone : c.others ≡ (get_or mid.columns n no_column).others) (p : P l (lane users mid n) (state users c.values on)) where
    abbrev next : Lanes
    next = lanes (set mid.columns n c) (set mid.marks n on)

    apart : (i : ℕ) → (i ≡ n → ⊥) → (get_or next.columns i no_column ≡ get_or mid.columns i no_column) × (get_or next.marks i [] ≡ get_or mid.marks i [])
    apart i off = (get_or-set_other mid.columns n i c no_column off, get_or-set_other mid.marks n i on [] off)

    pub same : lane users next n ≡ state users c.values on
    same = rw (get_or-set_same mid.columns n c no_column column_lt, get_or-set_same mid.marks n on [] mark_lt) refl

    pub apart-lane : (i : ℕ) → (i ≡ n → ⊥) → lane users next i ≡ lane users mid i
    apart-lane i off = let a = apart i off in rw (a.0, a.1) refl

    others-are : (i : ℕ) (b : Bool) → eqb i n ≡ b → (get_or next.columns i no_column).others ≡ (get_or old.columns i no_column).others
    others-are i true e = subst (λ (j : ℕ). (get_or next.columns j no_column).others ≡ (get_or old.columns j no_column).others) (sym (eqb-true i n e))
        (ap (λ (x : ColumnView). x.others) (get_or-set_same mid.columns n c no_column column_lt) ∙ (alone ∙ d.others n))
    others-are i false e = ap (λ (x : ColumnView). x.others) (apart i (eqb-false i n e)).0 ∙ d.others i

    done-are : (i : ℕ) (k : User) → i < n + 1 → slice_get landmarks i ≡ Some k → P k (lane users old i) (lane users next i)
    done-are i k lt e = ⊎_elim before here (cases_lt i n)
      where
        before : i < n → P k (lane users old i) (lane users next i)
        before less = let a = apart i (λ same. absurd (omega (arith, same, less))) in subst (λ (s : PushState). P k (lane users old i) s) (rw (a.0, a.1) refl) (d.done i k less e)

        here : n ≤ i → P k (lane users old i) (lane users next i)
        here ge =
            let at : i ≡ n = omega (arith, ge, lt) in
            let who : l ≡ k = some-one l k (sym is ∙ (ap (slice_get landmarks) (sym at) ∙ e)) in
            subst (λ (j : ℕ). P k (lane users old j) (lane users next j)) (sym at)
            (subst (λ (x : User). P x (lane users old n) (lane users next n)) who
            (subst (λ (x : PushState). P l x (lane users next n)) next-lane (subst (λ (x : PushState). P l (lane users mid n) x) (sym same) p)))

    pub stepped : AreDone P (n + 1) landmarks users old next
    stepped = record {
      columns_are = length-set mid.columns n c ∙ d.columns_are;
      marks_are = length-set mid.marks n on ∙ d.marks_are;
      others = λ i. others-are i (eqb i n) refl;
      done = done-are;
      rest = λ i le. let a = apart i (λ same. absurd (omega (arith, same, le))) in let r = d.rest i (omega (arith, le)) in (a.0 ∙ r.0, a.1 ∙ r.1);
    }

-- where all lanes are done and the facts stand after each, they stand of all
pub all-on : (d : Distance) (v : PartView) (P : Lane) (landmarks users : List User) (oc nc : List ColumnView) (om nm : List (List Bool)) → AreStates landmarks users oc om
    → AreAllDone (KeepsOn d v P) landmarks users (lanes oc om) (lanes nc nm) → AreOn d v landmarks users nc nm
all-on d v P landmarks users oc nc om nm s a = record {
  are = record {
    columns_are = a.columns_are ∙ s.columns_are;
    marks_are = a.marks_are ∙ s.marks_are;
    alone = λ i. a.others i ∙ s.alone i;
    states = λ i lt. (a.done i (get_or landmarks i no_user) lt (slice_get-get_or landmarks i no_user lt)).0;
  };
  on = λ i l e. (a.done i l (slice_get_within landmarks i l e) e).1;
}

-- what is owed depends on the lanes alone
pub owed-alike : (d : Distance) (v : PartView) (landmarks users : List User) (x y : Lanes) (n : ℕ) → ((i : ℕ) → i < n → lane users x i ≡ lane users y i) → owed_in d v landmarks users x n ≡ owed_in d v landmarks users y n
owed-alike d v landmarks users x y zero alike = refl
owed-alike d v landmarks users x y (suc n) alike =
    ap (λ (k : ℕ). k + to_read (rule_of d (get_or landmarks n no_user)) v (lane users x n)) (owed-alike d v landmarks users x y n (λ i lt. alike i (omega (arith, lt))))
    ∙ ap (λ (s : PushState). owed_in d v landmarks users y n + to_read (rule_of d (get_or landmarks n no_user)) v s) (alike n (omega arith))

pub owed-more : (d : Distance) (v : PartView) (landmarks users : List User) (x : Lanes) (n : ℕ) → owed_in d v landmarks users x (n + 1) ≡ owed_in d v landmarks users x n + to_read (rule_of d (get_or landmarks n no_user)) v (lane users x n)
owed-more d v landmarks users x n = subst (λ (k : ℕ). owed_in d v landmarks users x k ≡ owed_in d v landmarks users x n + to_read (rule_of d (get_or landmarks n no_user)) v (lane users x n)) (sym (add-one n)) refl

pub marked-all : (users : List User) (marks : List (List Bool)) (u : User) → marked_in users marks u (length marks) ≡ is_marked users marks u
marked-all users marks u = here (is_marked users marks u) refl
  where
    on : ℕ → Bool
    on k = get_or (get_or marks k []) (place users u) false

    up : (n k : ℕ) → k < n → on k ≡ true → marked_in users marks u n ≡ true
    up zero k lt e = absurd (omega (arith, lt))
    up (suc n) k lt e = ⊎_elim (λ (less : k < n). rw (up n k less e) refl)
        (λ (ge : n ≤ k). let same : k ≡ n = omega (arith, ge, lt) in or_right (marked_in users marks u n) (on n) (subst (λ (j : ℕ). on j ≡ true) same e)) (cases_lt k n)

    down : (n : ℕ) → ((k : ℕ) → k < n → on k ≡ false) → marked_in users marks u n ≡ false
    down zero off = refl
    down (suc n) off = rw (down n (λ k lt. off k (omega (arith, lt))), off n (omega arith)) refl

    here : (b : Bool) → is_marked users marks u ≡ b → marked_in users marks u (length marks) ≡ b
    here true e = let at = any-at (λ (x : List Bool). get_or x (place users u) false) marks [] e in up (length marks) at.0 at.1 at.2
    here false e = down (length marks) (λ k lt. false-any (λ (x : List Bool). get_or x (place users u) false) marks e k [] lt)

-- ---- a step of a loop over lanes

-- a column and its marks as they are read by place
pub lane-read : (users : List User) (columns : List Column) (marks : List (List Bool)) (i : ℕ) (dc : Column) (dm : List Bool) → i < length columns → i < length marks
    → state users (column_of (get_or columns i dc)).values (get_or marks i dm) ≡ lane users (lanes (columns_of columns) marks) i
lane-read users columns marks i dc dm c_lt m_lt =
    ap (λ (c : ColumnView). state users c.values (get_or marks i dm)) (sym (get_or-map column_of columns i dc no_column c_lt))
    ∙ ap (λ (on : List Bool). state users (get_or (columns_of columns) i no_column).values on) (get_or_default marks i dm [] m_lt)

pub others-read : (columns : List Column) (i : ℕ) (dc : Column) → i < length columns → (column_of (get_or columns i dc)).others ≡ (get_or (columns_of columns) i no_column).others
others-read columns i dc lt = ap (λ (c : ColumnView). c.others) (sym (get_or-map column_of columns i dc no_column lt))

module _ (P : Lane) (n : ℕ) (landmarks users : List User) (old : Lanes) (columns : List Column) (marks : List (List Bool)) (d : AreDone P n landmarks users old (lanes (columns_of columns) marks))
    (c_long : length old.columns ≡ length landmarks) (m_long : length old.marks ≡ length landmarks) (lt : n < length landmarks) where
  abbrev Mid : Lanes
  Mid = lanes (columns_of columns) marks

  pub column-lt : n < length columns
  column-lt = let m = length-map columns column_of in omega (arith, d.columns_are, c_long, m, lt)

  pub mark-lt : n < length marks
  mark-lt = omega (arith, d.marks_are, m_long, lt)

  abbrev Who : User
  Who = get_or landmarks n no_user

  pub who : slice_get landmarks n ≡ Some Who
  who = slice_get-get_or landmarks n no_user lt

  -- the lane as the loop reads it is the one of before
  pub lane-old : (dc : Column) (dm : List Bool) → state users (column_of (get_or columns n dc)).values (get_or marks n dm) ≡ lane users old n
  lane-old dc dm = lane-read users columns marks n dc dm column-lt mark-lt ∙ next-lane P n landmarks users old Mid d

  module _ (c : Column) (on : List Bool) (dc : Column) (dm : List Bool) (alone : (column_of c).others ≡ (column_of (get_or columns n dc)).others)
      (p : P Who (state users (column_of (get_or columns n dc)).values (get_or marks n dm)) (state users (column_of c).values on)) where
    set-columns : columns_of (set columns n c) ≡ set (columns_of columns) n (column_of c)
    set-columns = map-set column_of columns n c

    abbrev Next : Lanes
    Next = lanes (columns_of (set columns n c)) (set marks n on)

    next-is : Next ≡ lanes (set (columns_of columns) n (column_of c)) (set marks n on)
    next-is = ap (λ (cs : List ColumnView). lanes cs (set marks n on)) set-columns

    mid-lt : n < length (columns_of columns)
    mid-lt = let m = length-map columns column_of in omega (arith, m, column-lt)

    old-of : P Who (lane users Mid n) (state users (column_of c).values on)
    old-of = subst (λ (s : PushState). P Who s (state users (column_of c).values on)) (lane-read users columns marks n dc dm column-lt mark-lt) p

    pub done-next : AreDone P (n + 1) landmarks users old Next
    done-next = subst (AreDone P (n + 1) landmarks users old) (sym next-is)
        (stepped P n landmarks users old Mid d Who who (column_of c) on mid-lt mark-lt (alone ∙ others-read columns n dc column-lt) old-of)

    -- what is owed after the step, where the lane's turns paid for what they read
    pub owed-next : (rule : Distance) (v : PartView) (s0 s1 s2 : ℕ) → s1 + owed_in rule v landmarks users Mid n ≤ s0 + owed_in rule v landmarks users old n
        → s2 + to_read (rule_of rule Who) v (state users (column_of c).values on) ≤ s1 + to_read (rule_of rule Who) v (state users (column_of (get_or columns n dc)).values (get_or marks n dm))
        → s2 + owed_in rule v landmarks users Next (n + 1) ≤ s0 + owed_in rule v landmarks users old (n + 1)
    owed-next rule v s0 s1 s2 so-far paid =
        let below : owed_in rule v landmarks users Next n ≡ owed_in rule v landmarks users Mid n = owed-alike rule v landmarks users Next Mid n
        (λ i less. subst (λ (x : Lanes). lane users x i ≡ lane users Mid i) (sym next-is) (apart-lane P n landmarks users old Mid d Who who (column_of c) on mid-lt mark-lt (alone ∙ others-read columns n dc column-lt) old-of i (λ e. omega (arith, e, less)))) in
        let here : lane users Next n ≡ state users (column_of c).values on = subst (λ (x : Lanes). lane users x n ≡ state users (column_of c).values on) (sym next-is) (same P n landmarks users old Mid d Who who (column_of c) on mid-lt mark-lt (alone ∙ others-read columns n dc column-lt) old-of) in
        let was = lane-old dc dm in
        let new-read : to_read (rule_of rule Who) v (lane users Next n) ≡ to_read (rule_of rule Who) v (state users (column_of c).values on) = ap (to_read (rule_of rule Who) v) here in
        let old-read : to_read (rule_of rule Who) v (lane users old n) ≡ to_read (rule_of rule Who) v (state users (column_of (get_or columns n dc)).values (get_or marks n dm)) = ap (to_read (rule_of rule Who) v) (sym was) in
        let new-sum : owed_in rule v landmarks users Next (n + 1) ≡ owed_in rule v landmarks users Next n + to_read (rule_of rule Who) v (lane users Next n) = owed-more rule v landmarks users Next n in
        let old-sum : owed_in rule v landmarks users old (n + 1) ≡ owed_in rule v landmarks users old n + to_read (rule_of rule Who) v (lane users old n) = owed-more rule v landmarks users old n in
        omega (arith, below, new-read, old-read, new-sum, old-sum, so-far, paid)

-- where a step changes nothing
pub same-columns : (columns : List Column) (n : ℕ) (c dc : Column) → column_of c ≡ column_of (get_or columns n dc) → columns_of (set columns n c) ≡ columns_of columns
same-columns columns n c dc e = map-set_same column_of columns n c dc e

pub same-marks : (marks : List (List Bool)) (n : ℕ) (on dm : List Bool) → on ≡ get_or marks n dm → set marks n on ≡ marks
same-marks marks n on dm e = ap (λ (x : List Bool). set marks n x) e ∙ set-get_or marks n dm

-- who is marked in the next lane too
pub marked-more : (users : List User) (marks : List (List Bool)) (u : User) (n : ℕ) → marked_in users marks u (n + 1) ≡ (marked_in users marks u n || get_or (get_or marks n []) (place users u) false)
marked-more users marks u n = subst (λ (k : ℕ). marked_in users marks u k ≡ (marked_in users marks u n || get_or (get_or marks n []) (place users u) false)) (sym (add-one n)) refl

-- the next lane has a state, and the facts stand of it
pub next-on : (d : Distance) (v : PartView) (P : Lane) (n : ℕ) (landmarks users : List User) (oc : List ColumnView) (om : List (List Bool)) (columns : List Column) (marks : List (List Bool)) → AreDone P n landmarks users (lanes oc om) (lanes (columns_of columns) marks)
    → AreOn d v landmarks users oc om → n < length landmarks → (dc : Column) (dm : List Bool)
    → IsPushState (state users (column_of (get_or columns n dc)).values (get_or marks n dm)) × On (rule_of d (get_or landmarks n no_user)) v (state users (column_of (get_or columns n dc)).values (get_or marks n dm))
next-on d v P n landmarks users oc om columns marks done on lt dc dm =
    let was = lane-old P n landmarks users (lanes oc om) columns marks done on.are.columns_are on.are.marks_are lt dc dm in
    let l = who P n landmarks users (lanes oc om) columns marks done on.are.columns_are on.are.marks_are lt in
    (subst IsPushState (sym was) (on.are.states n lt), subst (On (rule_of d (get_or landmarks n no_user)) v) (sym was) (on.on n (get_or landmarks n no_user) l))

-- whether a user is active in the next lane, as the loop reads it
pub next-active : (P : Lane) (n : ℕ) (landmarks users : List User) (oc : List ColumnView) (om : List (List Bool)) (columns : List Column) (marks : List (List Bool)) → AreDone P n landmarks users (lanes oc om) (lanes (columns_of columns) marks)
    → AreStates landmarks users oc om → n < length landmarks → (dc : Column) (dm : List Bool) (u : User)
    → is_active (state users (column_of (get_or columns n dc)).values (get_or marks n dm)) u ≡ get_or (get_or om n []) (place users u) false
next-active P n landmarks users oc om columns marks done are lt dc dm u =
    ap (λ (s : PushState). is_active s u) (lane-old P n landmarks users (lanes oc om) columns marks done are.columns_are are.marks_are lt dc dm)

-- at the end all lanes are done
pub at-end : (P : Lane) (n : ℕ) (landmarks users : List User) (old new : Lanes) → n ≡ length landmarks → AreDone P n landmarks users old new → AreAllDone P landmarks users old new
at-end P n landmarks users old new e d = subst (λ (k : ℕ). AreDone P k landmarks users old new) e d

-- and have states
pub all-states : (P : Lane) (landmarks users : List User) (oc nc : List ColumnView) (om nm : List (List Bool)) → ((l : User) (a b : PushState) → P l a b → IsPushState b) → AreStates landmarks users oc om
    → AreAllDone P landmarks users (lanes oc om) (lanes nc nm) → AreStates landmarks users nc nm
all-states P landmarks users oc nc om nm keeps s a = record {
  columns_are = a.columns_are ∙ s.columns_are;
  marks_are = a.marks_are ∙ s.marks_are;
  alone = λ i. a.others i ∙ s.alone i;
  states = λ i lt. keeps (get_or landmarks i no_user) _ _ (a.done i (get_or landmarks i no_user) lt (slice_get-get_or landmarks i no_user lt));
}

-- and where each is quiet no place is marked
pub all-quiet : (d : Distance) (v : PartView) (Q : Lane) (landmarks users : List User) (oc nc : List ColumnView) (om nm : List (List Bool)) → ((l : User) (a b : PushState) → Q l a b → IsQuiet b) → AreStates landmarks users oc om
    → AreAllDone (KeepsOn d v Q) landmarks users (lanes oc om) (lanes nc nm) → are_quiet nm
all-quiet d v Q landmarks users oc nc om nm quiet s a k j = ⊎_elim inside (λ (ge : length nm ≤ k). rw (get_or_past nm k [] ge) refl) (cases_lt k (length nm))
  where
    inside : k < length nm → get_or (get_or nm k []) j false ≡ false
    inside lt =
        let within : k < length landmarks = omega (arith, lt, a.marks_are, s.marks_are) in
        let p = a.done k (get_or landmarks k no_user) within (slice_get-get_or landmarks k no_user within) in
        quiet-places (lane users (lanes nc nm) k) p.0 (quiet (get_or landmarks k no_user) _ _ p.2) j
