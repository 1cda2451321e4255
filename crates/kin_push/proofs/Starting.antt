-- The steps by which an epoch begins: starts, wider values, marks, and the landmark.
use Rattle.std.proofs.Common.{◌≡◌, ◌≤◌, ◌<◌, ◌+◌, ◌||◌, ◌&&◌, ◌++◌, ◌∙◌, ℕ, Bool, true, false, List, [], ◌∷◌, Option, Some, None, is_some}
use Rattle.std.proofs.Common.{length, get_or, set, map, take, if◌then◌else◌, refl, sym, ap, subst}
use Rattle.std.specs.List.{list_any}
use Rattle.std.proofs.lemmas.Bool.{both_ways}
use Rattle.std.proofs.lemmas.List.{length-map, take_all}
use Rattle.std.proofs.lemmas.List.Folds.{list_any-append, list_any_more}
use Rattle.std.proofs.Math.Bool.{or-false}
use Rattle.kin_ids.specs.declared.ids.User.{User}
use Rattle.kin_ids.specs.Users.{same_user, has_user}
use Rattle.kin_ids.proofs.Same.{same_user-sym}
use Rattle.kin_store.specs.declared.pairs.Pair.{Pair}
use Rattle.kin_graph.specs.Deltas.{DeltaLists}
use Rattle.kin_changes.specs.Told.{is_of}
use Rattle.kin_rules.specs.declared.kinds.EdgeKind.{EdgeKind}
use Rattle.kin_rules.specs.declared.kinds.EdgeKind.TheVariants as kind
use Rattle.kin_rules.specs.Places.{place}
use Rattle.kin_rules.specs.Walks.{Rule}
use Rattle.kin_rules.proofs.ColumnReads.{past-none}
use Rattle.kin_rules.proofs.Places.{map-place}
use Rattle.kin_push.specs.Begins.{IsEntered, adds_of, pairs_in, starts_by, is_started, lands_at}
use Rattle.kin_push.specs.States.{IsPushState, IsQuiet, state, value_in, is_active}
use Rattle.kin_push.proofs.States.{read-put}

-- starts

or-assoc : (a b c : Bool) → ((a || b) || c) ≡ (a || (b || c))
or-assoc true b c = refl
or-assoc false b c = refl

has-push : (us : List User) (u x : User) → has_user (us ++ x ∷ []) u ≡ (has_user us u || same_user u x)
has-push us u x = list_any-append (same_user u) us (x ∷ []) ∙ ap (λ (b : Bool). has_user us u || b) (or-false (same_user u x))

pub start-more : (old mid new : List User) (u : User) (ps : List Pair) (i : ℕ) (d : Pair) → i < length ps
    → has_user mid u ≡ (has_user old u || list_any (is_of u) (take i ps)) → new ≡ mid ++ (get_or ps i d).user ∷ []
    → has_user new u ≡ (has_user old u || list_any (is_of u) (take (i + 1) ps))
start-more old mid new u ps i d lt was push =
    ap (λ (us : List User). has_user us u) push ∙ has-push mid u (get_or ps i d).user
    ∙ ap (λ (b : Bool). b || same_user u (get_or ps i d).user) was
    ∙ or-assoc (has_user old u) (list_any (is_of u) (take i ps)) (same_user u (get_or ps i d).user)
    ∙ ap (λ (b : Bool). has_user old u || b) (sym (list_any_more (is_of u) ps i d lt))

adds-more : (ds : List DeltaLists) (k : EdgeKind) (u : User) (i : ℕ) (d : DeltaLists) → i < length ds
    → adds_of (take (i + 1) ds) k u ≡ (adds_of (take i ds) k u || list_any (is_of u) (pairs_in k (get_or ds i d)))
adds-more ds kind.Follow u i d lt = list_any_more (λ (e : DeltaLists). list_any (is_of u) e.new_out) ds i d lt
adds-more ds kind.Mention u i d lt = list_any_more (λ (e : DeltaLists). list_any (is_of u) e.mention_out) ds i d lt

pub delta-more : (old mid new : Bool) (k : EdgeKind) (u : User) (ds : List DeltaLists) (i : ℕ) (e : DeltaLists) (ps : List Pair)
    → i < length ds → e ≡ get_or ds i e → ps ≡ pairs_in k e → mid ≡ (old || adds_of (take i ds) k u)
    → new ≡ (mid || list_any (is_of u) ps) → new ≡ (old || adds_of (take (i + 1) ds) k u)
delta-more old mid new k u ds i e ps lt at pairs was is =
    is ∙ ap (λ (qs : List Pair). mid || list_any (is_of u) qs) (pairs ∙ ap (pairs_in k) at)
    ∙ ap (λ (b : Bool). b || list_any (is_of u) (pairs_in k (get_or ds i e))) was
    ∙ or-assoc old (adds_of (take i ds) k u) (list_any (is_of u) (pairs_in k (get_or ds i e)))
    ∙ ap (λ (b : Bool). old || b) (sym (adds-more ds k u i e lt))

pub starts-none : (r : Rule) (ds : List DeltaLists) (k : EdgeKind) (u : User) (a : Bool) → is_some (r.along k 0) ≡ false
    → a ≡ (a || starts_by r ds k u)
starts-none r ds k u a off = rw off (sym (or-false a))

pub starts-all : (r : Rule) (ds : List DeltaLists) (k : EdgeKind) (u : User) (old new : Bool) (i : ℕ) → is_some (r.along k 0) ≡ true
    → length ds ≤ i → new ≡ (old || adds_of (take i ds) k u) → new ≡ (old || starts_by r ds k u)
starts-all r ds k u old new i on le is = is ∙ ap (λ (es : List DeltaLists). old || adds_of es k u) (take_all i ds le) ∙ rw on refl

pub started-both : (r : Rule) (ds : List DeltaLists) (u : User) (a b c : Bool) → a ≡ false → b ≡ (a || starts_by r ds kind.Follow u)
    → c ≡ (b || starts_by r ds kind.Mention u) → c ≡ is_started r ds u
started-both r ds u a b c none first second = second ∙ ap (λ (x : Bool). x || starts_by r ds kind.Mention u)
    (first ∙ ap (λ (x : Bool). x || starts_by r ds kind.Follow u) none)

-- wider values

pub wide-length : (f : User → Option ℕ) (vs : List (Option ℕ)) (more : List User) (i : ℕ) → length more ≤ i → vs ≡ map f (take i more)
    → length vs ≡ length more
wide-length f vs more i le is = ap length (is ∙ ap (map f) (take_all i more le)) ∙ length-map more f

pub wide-value : (us : List User) (vs : List (Option ℕ)) (more : List User) (ws : List (Option ℕ)) (i : ℕ) → length vs ≡ length us
    → ((u : User) → has_user us u ≡ true → has_user more u ≡ true) → length more ≤ i
    → ws ≡ map (value_in (state us vs [])) (take i more) → (u : User) → get_or ws (place more u) None ≡ get_or vs (place us u) None
wide-value us vs more ws i long all le is u = here (has_user more u) refl
  where
    whole : ws ≡ map (value_in (state us vs [])) more
    whole = is ∙ ap (map (value_in (state us vs []))) (take_all i more le)

    gone : (b : Bool) → has_user us u ≡ b → has_user more u ≡ false → b ≡ false
    gone true h off = absurd (both_ways (has_user more u) off (all u h))
    gone false h off = refl

    here : (b : Bool) → has_user more u ≡ b → get_or ws (place more u) None ≡ get_or vs (place us u) None
    here true h = ap (λ (xs : List (Option ℕ)). get_or xs (place more u) None) whole ∙ map-place (value_in (state us vs [])) more u None h
    here false h =
        let off : has_user us u ≡ false = gone (has_user us u) refl h in
        past-none more ws u None (wide-length (value_in (state us vs [])) ws more i le is) h ∙ sym (past-none us vs u None long off)

-- marks

pub mark-more : (us : List User) (old : Bool) (ms ns : List Bool) (starts : List User) (i p : ℕ) (d u : User) → length ms ≡ length us
    → has_user us (get_or starts i d) ≡ true → p ≡ place us (get_or starts i d) → ns ≡ set ms p true → i < length starts
    → get_or ms (place us u) false ≡ (old || has_user (take i starts) u)
    → get_or ns (place us u) false ≡ (old || has_user (take (i + 1) starts) u)
mark-more us old ms ns starts i p d u long there at marked lt was =
    ap (λ (xs : List Bool). get_or xs (place us u) false) (marked ∙ ap (λ (k : ℕ). set ms k true) at)
    ∙ read-put us ms (get_or starts i d) true false long there u
    ∙ ap (λ (b : Bool). if b then true else get_or ms (place us u) false) (same_user-sym (get_or starts i d) u)
    ∙ ap (λ (b : Bool). if same_user u (get_or starts i d) then true else b) was
    ∙ mix (same_user u (get_or starts i d)) old (has_user (take i starts) u)
    ∙ ap (λ (b : Bool). old || b) (sym (list_any_more (same_user u) starts i d lt))
  where
    mix : (s a b : Bool) → (if s then true else (a || b)) ≡ (a || (b || s))
    mix true true b = refl
    mix true false true = refl
    mix true false false = refl
    mix false true b = refl
    mix false false true = refl
    mix false false false = refl

pub mark-all : (old new : Bool) (starts : List User) (i : ℕ) (u : User) → length starts ≤ i → new ≡ (old || has_user (take i starts) u)
    → new ≡ (old || has_user starts u)
mark-all old new starts i u le is = is ∙ ap (λ (us : List User). old || has_user us u) (take_all i starts le)

-- the landmark

-- nobody lands
module _ (mark u : User) (us : List User) (f : User → Option ℕ) (stays : lands_at mark us f ≡ false) where
  pub stays-value : f u ≡ (if lands_at mark us f && same_user u mark then Some 0 else f u)
  stays-value = rw stays refl

  pub stays-mark : (a : Bool) → a ≡ (a || (lands_at mark us f && same_user u mark))
  stays-mark a = rw stays (sym (or-false a))

pub not-there : (mark : User) (us : List User) (f : User → Option ℕ) → has_user us mark ≡ false → lands_at mark us f ≡ false
not-there mark us f off = rw off refl

pub not-none : (mark : User) (us : List User) (f : User → Option ℕ) → has_user us mark ≡ true → is_some (f mark) ≡ true
    → lands_at mark us f ≡ false
not-none mark us f there on = rw (there, on) refl

-- the landmark lands
module _ (mark u : User) (us : List User) (vs : List (Option ℕ)) (ms : List Bool) (i : ℕ) (s : IsPushState (state us vs ms))
    (there : has_user us mark ≡ true) (at : i ≡ place us mark) (none : is_some (get_or vs i None) ≡ false) where
  landed : lands_at mark us (value_in (state us vs ms)) ≡ true
  landed = let off : is_some (get_or vs (place us mark) None) ≡ false = subst (λ (k : ℕ). is_some (get_or vs k None) ≡ false) at none in rw
      (there, off) refl

  pub lands-value : get_or (set vs i (Some 0)) (place us u) None ≡
      (if lands_at mark us (value_in (state us vs ms)) && same_user u mark then Some 0 else get_or vs (place us u) None)
  lands-value =
      ap (λ (k : ℕ). get_or (set vs k (Some 0)) (place us u) None) at ∙ read-put us vs mark (Some 0) None s.valued there u
      ∙ ap (λ (b : Bool). if b then Some 0 else get_or vs (place us u) None)
      (same_user-sym mark u ∙ ap (λ (b : Bool). b && same_user u mark) (sym landed))

  pub lands-mark : (ns : List Bool) → ns ≡ set ms i true → get_or ns (place us u) false ≡
      (get_or ms (place us u) false || (lands_at mark us (value_in (state us vs ms)) && same_user u mark))
  lands-mark ns is =
      ap (λ (xs : List Bool). get_or xs (place us u) false) (is ∙ ap (λ (k : ℕ). set ms k true) at)
      ∙ read-put us ms mark true false s.marked there u
      ∙ mix (same_user mark u) (get_or ms (place us u) false) ∙ ap (λ (b : Bool). get_or ms (place us u) false || b)
      (same_user-sym mark u ∙ ap (λ (b : Bool). b && same_user u mark) (sym landed))
    where
      mix : (s b : Bool) → (if s then true else b) ≡ (b || s)
      mix true true = refl
      mix true false = refl
      mix false true = refl
      mix false false = refl

-- an epoch is entered
pub entered : (r : Rule) (starts us : List User) (vs ws : List (Option ℕ)) (ms ns os : List Bool) (mark : User) → mark ≡ r.mark
    → IsQuiet (state us vs ms)
    → ((xs : List (Option ℕ)) (u : User) → is_active (state us xs ns) u ≡ (is_active (state us xs ms) u || has_user starts u))
    → ((u : User) → value_in (state us ws os) u ≡ (if lands_at mark us (value_in (state us vs ns)) && same_user u mark then Some 0 else
    value_in (state us vs ns) u))
    → ((u : User) → is_active (state us ws os) u ≡ (is_active (state us vs ns) u ||
    (lands_at mark us (value_in (state us vs ns)) && same_user u mark)))
    → IsEntered r starts (state us vs ms) (state us ws os)
entered r starts us vs ws ms ns os mark is quiet marked values active = record {
  users = refl;
  active = λ u. active u ∙ ap (λ (a : Bool). a || (lands_at mark us (value_in (state us vs ns)) && same_user u mark))
      (marked vs u ∙ ap (λ (b : Bool). b || has_user starts u) (quiet u))
      ∙ ap (λ (m : User). has_user starts u || (lands_at m us (value_in (state us vs ns)) && same_user u m)) is;
  values = λ u. values u ∙ ap (λ (m : User). if lands_at m us (value_in (state us vs ns)) && same_user u m then Some 0 else value_in
      (state us vs ns) u) is;
}
