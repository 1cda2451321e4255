-- What operations touch, and what they leave as it was.
use Rattle.std.proofs.Common.{◌≡◌, ℕ, zero, suc, ◌<◌, ◌&&◌, ◌||◌, Bool, true, false, cond, if◌then◌else◌, List, [], ◌∷◌, ◌++◌, Option}
use Rattle.std.proofs.Common.{Some, None, length, get_or, refl, sym, ap, ◌∙◌, subst, arith}
use Rattle.std.specs.List.{list_any}
use Rattle.std.specs.Option.{option_or}
use Rattle.std.proofs.lemmas.Bool.{both_ways, or_parts}
use Rattle.std.proofs.lemmas.List.Folds.{list_any-append, find-append}
use Rattle.kin_ids.specs.declared.ids.User.{User}
use Rattle.kin_ids.specs.declared.stamps.Place.{Place}
use Rattle.kin_ids.specs.declared.ops.Half.{Half}
use Rattle.kin_ids.specs.declared.ops.Use.{Use}
use Rattle.kin_ids.specs.declared.ops.Op.{Op}
use Rattle.kin_ids.specs.declared.ops.Op.TheVariants as op
use Rattle.kin_ids.specs.declared.ops.Numbered.{Numbered}
use Rattle.kin_ids.specs.Users.{same_user, same_tag, has_user}
use Rattle.kin_ids.specs.Parts.{PartView, with_half, without_half, with_member, with_first}
use Rattle.kin_ids.proofs.Same.{same_user-true, same_user-sym, same_tag-true, same_tag-sym}
use Rattle.kin_store.specs.Rows.{UserRow, row_applied}
use Rattle.kin_store.specs.State.{PartState, view_of}
use Rattle.kin_store.specs.Changes.{Kept, kept, with_row, done, done_all}
use Rattle.kin_store.specs.declared.pairs.Pair.{Pair}
use Rattle.kin_store.specs.declared.pairs.TagUser.{TagUser}
use Rattle.kin_graph.specs.Deltas.{half_to, use_of}
use Rattle.kin_graph.specs.Touches.{TouchedLists, untouched, touches_out, touches_in, touches_mention, touches_mentioner, touches_said}
use Rattle.kin_graph.specs.Touches.{touches_use, touches_tag, IsTouched, LeavesOthers, KeepsNotes, HasNoted}
use Rattle.kin_graph.proofs.Parted.{part_view}

-- nothing was touched yet
pub touched-nothing : (v : PartView) → IsTouched untouched v v
touched-nothing v = record {
  out = λ p e. refl;
  inn = λ p e. refl;
  mentions = λ p e. refl;
  mentioners = λ p e. refl;
  said = λ u e. refl;
  uses = λ p e. refl;
  tag_users = λ p e. refl;
}

-- more notes do no harm
pub touched-kept : (old new : TouchedLists) (was is : PartView) → IsTouched old was is → KeepsNotes old new → IsTouched new was is
touched-kept old new was is t k = record {
  out = λ p e. t.out p (k.out p e);
  inn = λ p e. t.inn p (k.inn p e);
  mentions = λ p e. t.mentions p (k.mentions p e);
  mentioners = λ p e. t.mentioners p (k.mentioners p e);
  said = λ u e. t.said u (k.said u e);
  uses = λ p e. t.uses p (k.uses p e);
  tag_users = λ p e. t.tag_users p (k.tag_users p e);
}

-- after operations that were noted
pub touched-more : (old new : TouchedLists) (ops : List Numbered) (was mid is : PartView) → IsTouched old was mid → LeavesOthers ops mid is
    → KeepsNotes old new → HasNoted ops new → IsTouched new was is
touched-more old new ops was mid is t l k n = record {
  out = λ p e. l.out p (n.out p e) ∙ t.out p (k.out p e);
  inn = λ p e. l.inn p (n.inn p e) ∙ t.inn p (k.inn p e);
  mentions = λ p e. l.mentions p (n.mentions p e) ∙ t.mentions p (k.mentions p e);
  mentioners = λ p e. l.mentioners p (n.mentioners p e) ∙ t.mentioners p (k.mentioners p e);
  said = λ u e. l.said u (n.said u e) ∙ t.said u (k.said u e);
  uses = λ p e. l.uses p (n.uses p e) ∙ t.uses p (k.uses p e);
  tag_users = λ p e. l.tag_users p (n.tag_users p e) ∙ t.tag_users p (k.tag_users p e);
}

-- Both parts hand out the same of everything of which this operation isn't.
pub record LeavesRest (o : Op) (was is : PartView) : Type 0 where
  pub out : (p : Pair) → touches_out o p ≡ false → half_to (is.out p.user) p.other ≡ half_to (was.out p.user) p.other
  pub inn : (p : Pair) → touches_in o p ≡ false → half_to (is.inn p.user) p.other ≡ half_to (was.inn p.user) p.other
  pub mentions : (p : Pair) → touches_mention o p ≡ false → has_user (is.mentions p.user) p.other ≡ has_user (was.mentions p.user) p.other
  pub mentioners : (p : Pair) → touches_mentioner o p ≡ false → has_user (is.mentioners p.user) p.other
      ≡ has_user (was.mentioners p.user) p.other
  pub said : (u : User) → touches_said o u ≡ false → is.said u ≡ was.said u
  pub uses : (p : TagUser) → touches_use o p ≡ false → use_of (is.uses p.user) p.tag ≡ use_of (was.uses p.user) p.tag
  pub tag_users : (p : TagUser) → touches_tag o p ≡ false → has_user (is.tag_users p.tag) p.user ≡ has_user (was.tag_users p.tag) p.user

-- where one of two tests fails, and the other doesn't
second-false : (a b : Bool) → (a && b) ≡ false → a ≡ true → b ≡ false
second-false true b e t = e
second-false false b e t = absurd (both_ways false refl t)

first-false : (a b : Bool) → (a && b) ≡ false → b ≡ true → a ≡ false
first-false true b e t = absurd (both_ways b e t)
first-false false b e t = refl

-- a look-up past an item of a user that is not the one
past_item : (w q : User) (x y : Half) (xs : List Half) → same_user w q ≡ false → same_user w x.other ≡ true → y.other ≡ x.other
    → half_to (y ∷ xs) q ≡ half_to xs q
past_item w q x y xs away here same =
    let miss : same_user q y.other ≡ false = ap (same_user q) (same ∙ sym (same_user-true w x.other here)) ∙ (same_user-sym q w ∙ away) in
    ap (λ (b : Bool). cond b (Some y) (half_to xs q)) miss

half-with : (w : User) (at : Place) (xs : List Half) (q : User) → same_user w q ≡ false → half_to (with_half w at xs) q ≡ half_to xs q
half-with w at [] q away = ap (λ (b : Bool). cond b (Some (record { other = w; present = true; added = at })) None) (same_user-sym q w
    ∙ away)
half-with w at (x ∷ xs) q away = by_test (same_user w x.other) refl (half-with w at xs q away) where
  by_test : (b : Bool) → same_user w x.other ≡ b → half_to (with_half w at xs) q ≡ half_to xs q
      → half_to (if b then record x { present = true } ∷ xs else x ∷ with_half w at xs) q ≡ half_to (x ∷ xs) q
  by_test true t rest = past_item w q x (record x { present = true }) xs away t refl ∙ sym (past_item w q x x xs away t refl)
  by_test false t rest = ap (λ (o : Option Half). cond (same_user q x.other) (Some x) o) rest

half-without : (w : User) (xs : List Half) (q : User) → same_user w q ≡ false → half_to (without_half w xs) q ≡ half_to xs q
half-without w [] q away = refl
half-without w (x ∷ xs) q away = by_test (same_user w x.other) refl (half-without w xs q away) where
  by_test : (b : Bool) → same_user w x.other ≡ b → half_to (without_half w xs) q ≡ half_to xs q
      → half_to (if b then record x { present = false } ∷ xs else x ∷ without_half w xs) q ≡ half_to (x ∷ xs) q
  by_test true t rest = past_item w q x (record x { present = false }) xs away t refl ∙ sym (past_item w q x x xs away t refl)
  by_test false t rest = ap (λ (o : Option Half). cond (same_user q x.other) (Some x) o) rest

member-with : (w : User) (us : List User) (q : User) → same_user w q ≡ false → has_user (with_member w us) q ≡ has_user us q
member-with w us q away = by_test (has_user us w) where
  more : (a : Bool) → (a || (same_user q w || false)) ≡ a
  more true = refl
  more false = ap (λ (b : Bool). b || false) (same_user-sym q w ∙ away)

  by_test : (b : Bool) → has_user (if b then us else us ++ w ∷ []) q ≡ has_user us q
  by_test true = refl
  by_test false = list_any-append (same_user q) us (w ∷ []) ∙ more (has_user us q)

use-with : (t : List ℕ) (at : Place) (xs : List Use) (s : List ℕ) → same_tag t s ≡ false → use_of (with_first t at xs) s ≡ use_of xs s
use-with t at xs s away = by_test (list_any (λ x. same_tag t x.tag) xs) where
  new : Use
  new = record { tag = t; first = at }

  more : (o : Option Use) → option_or o (cond (same_tag s t) (Some new) None) ≡ o
  more (Some x) = refl
  more None = ap (λ (b : Bool). cond b (Some new) None) (same_tag-sym s t ∙ away)

  by_test : (b : Bool) → use_of (if b then xs else xs ++ new ∷ []) s ≡ use_of xs s
  by_test true = refl
  by_test false = find-append (λ (x : Use). same_tag s x.tag) xs (new ∷ []) ∙ more (use_of xs s)

-- what is read of a row stays where only other rows changed, or other parts of this one
row-stays : {B : Type 0} (g : UserRow → B) (k : Kept) (u : User) (r : UserRow) (q : User) → (same_user u q ≡ true → g r ≡ g (k.row u))
    → g ((with_row k u r).row q) ≡ g (k.row q)
row-stays {B} g k u r q same = by_test (same_user u q) refl where
  by_test : (b : Bool) → same_user u q ≡ b → g (if b then r else k.row q) ≡ g (k.row q)
  by_test true t = same t ∙ ap (λ (v : User). g (k.row v)) (same_user-true u q t)
  by_test false t = refl

-- an operation on a user's row leaves what it isn't about
module _ (k : Kept) (u : User) (r : UserRow) (o : Op) where
  row-leaves : ((p : Pair) → touches_out o p ≡ false → same_user u p.user ≡ true → half_to r.out p.other ≡ half_to (k.row u).out p.other)
      → ((p : Pair) → touches_in o p ≡ false → same_user u p.user ≡ true → half_to r.inn p.other ≡ half_to (k.row u).inn p.other)
      → ((p : Pair) → touches_mention o p ≡ false → same_user u p.user ≡ true → has_user r.mentions p.other
      ≡ has_user (k.row u).mentions p.other)
      → ((p : Pair) → touches_mentioner o p ≡ false → same_user u p.user ≡ true → has_user r.mentioners p.other
      ≡ has_user (k.row u).mentioners p.other)
      → ((q : User) → touches_said o q ≡ false → same_user u q ≡ true → r.said ≡ (k.row u).said)
      → ((p : TagUser) → touches_use o p ≡ false → same_user u p.user ≡ true → use_of r.uses p.tag ≡ use_of (k.row u).uses p.tag)
      → LeavesRest o (part_view k) (part_view (with_row k u r))
  row-leaves out inn mentions mentioners said uses = record {
    out = λ p e. row-stays (λ (x : UserRow). half_to x.out p.other) k u r p.user (out p e);
    inn = λ p e. row-stays (λ (x : UserRow). half_to x.inn p.other) k u r p.user (inn p e);
    mentions = λ p e. row-stays (λ (x : UserRow). has_user x.mentions p.other) k u r p.user (mentions p e);
    mentioners = λ p e. row-stays (λ (x : UserRow). has_user x.mentioners p.other) k u r p.user (mentioners p e);
    said = λ q e. row-stays (λ (x : UserRow). x.said) k u r q (said q e);
    uses = λ p e. row-stays (λ (x : UserRow). use_of x.uses p.tag) k u r p.user (uses p e);
    tag_users = λ p e. refl;
  }

-- an operation leaves what it isn't about
pub leaves-done : (at : Place) (k : Kept) (o : Op) → LeavesRest o (part_view k) (part_view (done at k o))
leaves-done at k (op.AddOut u w) = row-leaves k u (row_applied at (k.row u) (op.AddOut u w)) (op.AddOut u w)
    (λ p e t. half-with w at (k.row u).out p.other (second-false _ _ e t)) (λ p e t. refl) (λ p e t. refl) (λ p e t. refl) (λ q e t. refl)
    (λ p e t. refl)
leaves-done at k (op.AddIn w u) = row-leaves k w (row_applied at (k.row w) (op.AddIn w u)) (op.AddIn w u)
    (λ p e t. refl) (λ p e t. half-with u at (k.row w).inn p.other (second-false _ _ e t)) (λ p e t. refl) (λ p e t. refl) (λ q e t. refl)
    (λ p e t. refl)
leaves-done at k (op.DropOut u w) = row-leaves k u (row_applied at (k.row u) (op.DropOut u w)) (op.DropOut u w)
    (λ p e t. half-without w (k.row u).out p.other (second-false _ _ e t)) (λ p e t. refl) (λ p e t. refl) (λ p e t. refl) (λ q e t. refl)
    (λ p e t. refl)
leaves-done at k (op.DropIn w u) = row-leaves k w (row_applied at (k.row w) (op.DropIn w u)) (op.DropIn w u)
    (λ p e t. refl) (λ p e t. half-without u (k.row w).inn p.other (second-false _ _ e t)) (λ p e t. refl) (λ p e t. refl) (λ q e t. refl)
    (λ p e t. refl)
leaves-done at k (op.MentionOut u w) = row-leaves k u (row_applied at (k.row u) (op.MentionOut u w)) (op.MentionOut u w)
    (λ p e t. refl) (λ p e t. refl) (λ p e t. member-with w (k.row u).mentions p.other (second-false _ _ e t)) (λ p e t. refl)
    (λ q e t. refl) (λ p e t. refl)
leaves-done at k (op.MentionIn w u) = row-leaves k w (row_applied at (k.row w) (op.MentionIn w u)) (op.MentionIn w u)
    (λ p e t. refl) (λ p e t. refl) (λ p e t. refl) (λ p e t. member-with u (k.row w).mentioners p.other (second-false _ _ e t))
    (λ q e t. refl) (λ p e t. refl)
leaves-done at k (op.Said w) = row-leaves k w (row_applied at (k.row w) (op.Said w)) (op.Said w)
    (λ p e t. refl) (λ p e t. refl) (λ p e t. refl) (λ p e t. refl) (λ q e t. absurd (both_ways (same_user w q) e t)) (λ p e t. refl)
leaves-done at k (op.Use u t) = row-leaves k u (row_applied at (k.row u) (op.Use u t)) (op.Use u t)
    (λ p e s. refl) (λ p e s. refl) (λ p e s. refl) (λ p e s. refl) (λ q e s. refl)
    (λ p e s. use-with t at (k.row u).uses p.tag (first-false _ _ e s))
leaves-done at k (op.TagUse t u) = record {
  out = λ p e. refl;
  inn = λ p e. refl;
  mentions = λ p e. refl;
  mentioners = λ p e. refl;
  said = λ q e. refl;
  uses = λ p e. refl;
  tag_users = λ p e. by_test p e (same_tag t p.tag) refl;
} where
  by_test : (p : TagUser) → touches_tag (op.TagUse t u) p ≡ false → (b : Bool) → same_tag t p.tag ≡ b
      → has_user (if b then with_member u (k.users t) else k.users p.tag) p.user ≡ has_user (k.users p.tag) p.user
  by_test p e true s = member-with u (k.users t) p.user (second-false _ _ e s) ∙ ap (λ (l : List ℕ). has_user (k.users l) p.user)
      (same_tag-true t p.tag s)
  by_test p e false s = refl

-- no operation yet
pub leaves-nothing : (ops : List Numbered) (v : PartView) → LeavesOthers ops v v
leaves-nothing ops v = record {
  out = λ p e. refl;
  inn = λ p e. refl;
  mentions = λ p e. refl;
  mentioners = λ p e. refl;
  said = λ u e. refl;
  uses = λ p e. refl;
  tag_users = λ p e. refl;
}

-- where none passes, this one doesn't
none-at : (f : Numbered → Bool) (ops : List Numbered) (n : ℕ) (d : Numbered) → n < length ops → list_any f ops ≡ false
    → f (get_or ops n d) ≡ false
none-at f [] n d within e = absurd (omega (arith, within))
none-at f (x ∷ xs) zero d within e = (or_parts (f x) (list_any f xs) e).0
none-at f (x ∷ xs) (suc n) d within e = none-at f xs n d (omega (arith, within)) (or_parts (f x) (list_any f xs) e).1

-- one of the operations more
module _ (ops : List Numbered) (n : ℕ) (x : Numbered) (within : n < length ops) (is : x ≡ get_or ops n x) where
  none-here : (f : Numbered → Bool) → list_any f ops ≡ false → f x ≡ false
  none-here f e = ap f is ∙ none-at f ops n x within e

  pub leaves-more : (was mid new : PartView) → LeavesOthers ops was mid → LeavesRest x.op mid new → LeavesOthers ops was new
  leaves-more was mid new l r = record {
    out = λ p e. r.out p (none-here (λ o. touches_out o.op p) e) ∙ l.out p e;
    inn = λ p e. r.inn p (none-here (λ o. touches_in o.op p) e) ∙ l.inn p e;
    mentions = λ p e. r.mentions p (none-here (λ o. touches_mention o.op p) e) ∙ l.mentions p e;
    mentioners = λ p e. r.mentioners p (none-here (λ o. touches_mentioner o.op p) e) ∙ l.mentioners p e;
    said = λ u e. r.said u (none-here (λ o. touches_said o.op u) e) ∙ l.said u e;
    uses = λ p e. r.uses p (none-here (λ o. touches_use o.op p) e) ∙ l.uses p e;
    tag_users = λ p e. r.tag_users p (none-here (λ o. touches_tag o.op p) e) ∙ l.tag_users p e;
  }

  -- in a loop over the operations, by what is kept
  pub leaves-step : (was s new : PartState) (at : Place) → LeavesOthers ops (view_of was) (view_of s) → kept new ≡ done at (kept s) x.op
      → LeavesOthers ops (view_of was) (view_of new)
  leaves-step was s new at l e =
      leaves-more (view_of was) (view_of s) (view_of new) l (subst (λ (k : Kept). LeavesRest x.op (view_of s) (part_view k)) (sym e)
      (leaves-done at (kept s) x.op))

-- operations leave what none of them is about
pub leaves-done_all : (e i : ℕ) (ops : List Numbered) (k : Kept) → LeavesOthers ops (part_view k) (part_view (done_all e i k ops))
leaves-done_all e i [] k = leaves-nothing [] (part_view k)
leaves-done_all e i (x ∷ xs) k =
    let at : Place = record { epoch = record { 0 = e }; ingest = record { 0 = i }; number = x.number } in
    let one = leaves-done at k x.op in
    let rest = leaves-done_all e i xs (done at k x.op) in
    let parts : (f : Numbered → Bool) → list_any f (x ∷ xs) ≡ false → (f x ≡ false) × (list_any f xs ≡ false) =
    λ f n. or_parts (f x) (list_any f xs) n in
    record {
      out = λ p n. rest.out p (parts (λ o. touches_out o.op p) n).1 ∙ one.out p (parts (λ o. touches_out o.op p) n).0;
      inn = λ p n. rest.inn p (parts (λ o. touches_in o.op p) n).1 ∙ one.inn p (parts (λ o. touches_in o.op p) n).0;
      mentions = λ p n. rest.mentions p (parts (λ o. touches_mention o.op p) n).1
          ∙ one.mentions p (parts (λ o. touches_mention o.op p) n).0;
      mentioners = λ p n. rest.mentioners p (parts (λ o. touches_mentioner o.op p) n).1
          ∙ one.mentioners p (parts (λ o. touches_mentioner o.op p) n).0;
      said = λ u n. rest.said u (parts (λ o. touches_said o.op u) n).1 ∙ one.said u (parts (λ o. touches_said o.op u) n).0;
      uses = λ p n. rest.uses p (parts (λ o. touches_use o.op p) n).1 ∙ one.uses p (parts (λ o. touches_use o.op p) n).0;
      tag_users = λ p n. rest.tag_users p (parts (λ o. touches_tag o.op p) n).1 ∙ one.tag_users p (parts (λ o. touches_tag o.op p) n).0;
    }

-- a store after operations, by what is kept
pub leaves-kept : (e i : ℕ) (ops : List Numbered) (s n : PartState) → kept n ≡ done_all e i (kept s) ops
    → LeavesOthers ops (view_of s) (view_of n)
leaves-kept e i ops s n same = subst (λ (k : Kept). LeavesOthers ops (view_of s) (part_view k)) (sym same)
    (leaves-done_all e i ops (kept s))
