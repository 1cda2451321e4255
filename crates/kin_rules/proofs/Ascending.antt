-- Keys that ascend: where one stands, and what is read there after a change.
use Rattle.std.proofs.Common.{◌≡◌, ◌<◌, ◌≤◌, ◌+◌, ◌∙◌, ◌||◌, ℕ, zero, suc, Bool, true, false, not, List, [], ◌∷◌, length, get_or, set, map, cond, ltb, Result, Ok, Err, arith, refl, sym, ap, subst}
use Rattle.std.specs.List.{insert, remove, list_any, position_or_len}
use Rattle.std.specs.List.Sorted.{IsStrictlySortedBy, IsBinarySearchResult, IsSearchInRange}
use Rattle.std.specs.Ordering.{is_eq, ordering_index, ordering_reverse}
use Rattle.std.specs.BTreeMap.{is_at}
use Rattle.std.specs.declared.cmp.Ordering.{Ordering}
use Rattle.std.specs.declared.cmp.Ordering.TheVariants.{Less, Equal, Greater}
use Rattle.std.proofs.lemmas.Bool.{both_ways, or_parts}
use Rattle.std.proofs.lemmas.Bool.Decides.{nat_tests}
use Rattle.std.proofs.lemmas.Cmp.{tied_itself}
use Rattle.std.proofs.lemmas.List.Edits.{length-insert, get_or-insert_below, get_or-insert_at, get_or-insert_above}
use Rattle.std.proofs.lemmas.List.Sums.{position_or_len_is}
use Rattle.std.proofs.lemmas.List.Folds.{list_any_at}
use Rattle.std.proofs.lemmas.Map.Keys.{Less-from_sorted, sorted_from_all_adjacent, sorted_tail}
use Rattle.std.proofs.lemmas.Map.Views.{All-after_first}
use Rattle.kin_rules.specs.Spots.{StandsAt, IsSpot}
use Rattle.kin_rules.proofs.Orders.{IsExact}

-- a test that no element passes
none-passes : {X : Type 0} (p : X → Bool) (xs : List X) → ((k : ℕ) (d : X) → k < length xs → p (get_or xs k d) ≡ false) → list_any p xs ≡ false
none-passes p [] off = refl
none-passes p (x ∷ xs) off = rw (off 0 x (omega arith), none-passes p xs (λ k d lt. off (suc k) d (omega (arith, lt)))) refl

-- what is before or past a place
by-place : {X : Type 0} (p : X → Bool) (xs : List X) (i : ℕ) → ((k : ℕ) (d : X) → k < i → p (get_or xs k d) ≡ false) → ((k : ℕ) (d : X) → i ≤ k → k < length xs → p (get_or xs k d) ≡ false)
    → list_any p xs ≡ false
by-place p xs i low high = none-passes p xs (λ k d lt. here k d lt (ltb k i) refl)
  where
    here : (k : ℕ) (d : _) → k < length xs → (b : Bool) → ltb k i ≡ b → p (get_or xs k d) ≡ false
    here k d lt true e = low k d (grind (arith, nat_tests, e))
    here k d lt false e = high k d (grind (arith, nat_tests, e)) lt

module _ {K : Type 0} {cmp : K → K → Ordering} (o : IsExact cmp) where
  abbrev same : K → K → Bool
  same a b = is_at (cmp a) b

  pub same-self : (a : K) → same a a ≡ true
  same-self a = ap is_eq (tied_itself o.total a)

  same-is : (a b : K) → same a b ≡ true → a ≡ b
  same-is a b h = o.exact a b (here (cmp a b) h)
    where
      here : (r : Ordering) → is_eq r ≡ true → r ≡ Equal
      here Less h = absurd cc
      here Equal h = refl
      here Greater h = absurd cc

  less-apart : (a b : K) → cmp a b ≡ Less → same b a ≡ false
  less-apart a b h = ap is_eq (o.total.antisymm b a ∙ ap ordering_reverse h)

  greater-less : (a b : K) → cmp a b ≡ Greater → cmp b a ≡ Less
  greater-less a b h = o.total.antisymm b a ∙ ap ordering_reverse h

  -- an equal key was found there
  pub found-there : (keys : List K) (key : K) (i : ℕ) → IsStrictlySortedBy cmp keys → i < length keys → get_or keys i key ≡ key → StandsAt cmp keys key i
  found-there keys key i sorted lt is = record {
    one = list_any_at (is_at (cmp key)) keys i key lt (subst (λ (k : K). same key k ≡ true) (sym is) (same-self key));
    place = position_or_len_is (is_at (cmp key)) keys i key (omega (arith, lt)) before (λ _. subst (λ (k : K). same key k ≡ true) (sym is) (same-self key));
    within = lt;
  }
    where
      before : (k : ℕ) → k < i → same key (get_or keys k key) ≡ false
      before k less = less-apart (get_or keys k key) key (subst (λ (x : K). cmp (get_or keys k key) x ≡ Less) is (Less-from_sorted cmp keys k i key sorted less lt))

  -- with the key put between those before it and those after it they ascend
  put-between : (keys : List K) (key : K) (i : ℕ) → IsStrictlySortedBy cmp keys → i ≤ length keys
      → ((k : ℕ) (d : K) → 0 ≤ k → k < i → cmp (get_or keys k d) key ≡ Less) → ((k : ℕ) (d : K) → i ≤ k → k < length keys → cmp (get_or keys k d) key ≡ Greater)
      → IsStrictlySortedBy cmp (insert keys i key)
  put-between keys key i sorted le low high = sorted_from_all_adjacent o.total (insert keys i key) key each
    where
      long : length (insert keys i key) ≡ length keys + 1
      long = length-insert keys i key le

      -- the places before it, right before it, at it, and after it
      below : (k : ℕ) → k + 1 < i → cmp (get_or (insert keys i key) k key) (get_or (insert keys i key) (k + 1) key) ≡ Less
      below k lt = rw (get_or-insert_below keys i key key k (omega arith) le, get_or-insert_below keys i key key (k + 1) lt le) (Less-from_sorted cmp keys k (k + 1) key sorted (omega arith) (omega arith))

      right-below : (k : ℕ) → k + 1 ≡ i → cmp (get_or (insert keys i key) k key) (get_or (insert keys i key) (k + 1) key) ≡ Less
      right-below k e = rw (get_or-insert_below keys i key key k (omega arith) le) (subst (λ (j : ℕ). cmp (get_or keys k key) (get_or (insert keys i key) j key) ≡ Less) (sym e) (rw (get_or-insert_at keys i key key le) (low k key (omega arith) (omega arith))))

      at : (k : ℕ) → k ≡ i → k < length keys → cmp (get_or (insert keys i key) k key) (get_or (insert keys i key) (k + 1) key) ≡ Less
      at k e lt = rw (get_or-insert_above keys i key key k (omega arith) le) (subst (λ (j : ℕ). cmp (get_or (insert keys i key) j key) (get_or keys k key) ≡ Less) (sym e)
          (rw (get_or-insert_at keys i key key le) (greater-less (get_or keys k key) key (high k key (omega arith) lt))))

      above : (k j : ℕ) → k ≡ j + 1 → i ≤ j → k < length keys → cmp (get_or (insert keys i key) k key) (get_or (insert keys i key) (k + 1) key) ≡ Less
      above k j e more lt = rw (get_or-insert_above keys i key key k (omega arith) le) (subst (λ (m : ℕ). cmp (get_or (insert keys i key) m key) (get_or keys k key) ≡ Less) (sym e)
          (rw (get_or-insert_above keys i key key j more le) (Less-from_sorted cmp keys j k key sorted (omega arith) lt)))

      past : (k : ℕ) → i < k → k < length keys → cmp (get_or (insert keys i key) k key) (get_or (insert keys i key) (k + 1) key) ≡ Less
      past zero lt less = absurd (omega (arith, lt))
      past (suc j) lt less = above (suc j) j (omega arith) (omega arith) less

      each : (k : ℕ) → k + 1 < length (insert keys i key) → cmp (get_or (insert keys i key) k key) (get_or (insert keys i key) (k + 1) key) ≡ Less
      each k lt = here (ltb (k + 1) i) refl (ltb k i) refl (ltb i k) refl
        where
          here : (a : Bool) → ltb (k + 1) i ≡ a → (b : Bool) → ltb k i ≡ b → (c : Bool) → ltb i k ≡ c → cmp (get_or (insert keys i key) k key) (get_or (insert keys i key) (k + 1) key) ≡ Less
          here true ea b eb c ec = below k (grind (arith, nat_tests, ea))
          here false ea true eb c ec = right-below k (grind (arith, nat_tests, ea, eb))
          here false ea false eb false ec = at k (grind (arith, nat_tests, eb, ec)) (grind (arith, nat_tests, eb, ec, lt, long))
          here false ea false eb true ec = past k (grind (arith, nat_tests, ec)) (grind (arith, lt, long))

  -- what a binary search answers is the key's spot
  pub searched-spot : (keys : List K) (key : K) (r : Result ℕ ℕ) → IsStrictlySortedBy cmp keys → IsSearchInRange r (length keys) → IsBinarySearchResult (λ y. cmp y key) keys r
      → IsSpot cmp keys key r
  searched-spot keys key (Ok i) sorted lt is = found-there keys key i sorted lt (o.exact (get_or keys i key) key (is key))
  searched-spot keys key (Err i) sorted le is =
      let parts = is (rising keys sorted) in
      record {
        none = by-place (is_at (cmp key)) keys i (λ k d lt. less-apart (get_or keys k d) key (parts.0 k d (omega arith) lt)) (λ k d le lt. ap is_eq (greater-less (get_or keys k d) key (parts.1 k d le lt)));
        within = le;
        ascend = put-between keys key i sorted le parts.0 parts.1;
      }
    where
      -- keys before it, it, and keys after it
      step : (a b : K) → cmp a b ≡ Less → ordering_index (cmp a key) ≤ ordering_index (cmp b key)
      step a b less = here (cmp a key) refl (cmp b key) refl
        where
          here : (p : Ordering) → cmp a key ≡ p → (q : Ordering) → cmp b key ≡ q → ordering_index p ≤ ordering_index q
          here Less ea q eb = omega arith
          here Equal ea Less eb = absurd (let w : cmp a key ≡ Less = o.total.trans a b key less eb in cc)
          here Equal ea Equal eb = omega arith
          here Equal ea Greater eb = omega arith
          here Greater ea Less eb = absurd (let w : cmp a key ≡ Less = o.total.trans a b key less eb in cc)
          here Greater ea Equal eb = absurd (let w : cmp a key ≡ Less = subst (λ (x : K). cmp a x ≡ Less) (o.exact b key eb) less in cc)
          here Greater ea Greater eb = omega arith

      rising : (ks : List K) → IsStrictlySortedBy cmp ks → (i j : ℕ) (d : K) → i ≤ j → j < length ks → ordering_index (cmp (get_or ks i d) key) ≤ ordering_index (cmp (get_or ks j d) key)
      rising ks up i j d le lt = here (ltb i j) refl
        where
          here : (b : Bool) → ltb i j ≡ b → ordering_index (cmp (get_or ks i d) key) ≤ ordering_index (cmp (get_or ks j d) key)
          here true e = step (get_or ks i d) (get_or ks j d) (Less-from_sorted cmp ks i j d up (grind (arith, nat_tests, e)) lt)
          here false e = let same : i ≡ j = grind (arith, nat_tests, e, le) in subst (λ (n : ℕ). ordering_index (cmp (get_or ks i d) key) ≤ ordering_index (cmp (get_or ks n d) key)) same (omega arith)

  -- ---- what is read at a key's place

  -- the place of a key in a list that begins with another, or with the key
  place-cons : (x k : K) (ks : List K) → position_or_len (is_at (cmp x)) (k ∷ ks) ≡ cond (same x k) 0 (suc (position_or_len (is_at (cmp x)) ks))
  place-cons x k ks = here (same x k)
    where
      here : (b : Bool) → cond (not b) (1 + position_or_len (is_at (cmp x)) ks) 0 ≡ cond b 0 (suc (position_or_len (is_at (cmp x)) ks))
      here true = refl
      here false = omega arith

  -- what is kept for the key x, in lists of which the first has keys and the second what is kept for each
  abbrev read : {V : Type 0} → List K → List V → K → V → V
  read ks vs x d = get_or vs (position_or_len (is_at (cmp x)) ks) d

  read-cons : {V : Type 0} (k : K) (ks : List K) (v : V) (vs : List V) (x : K) (d : V) → read (k ∷ ks) (v ∷ vs) x d ≡ cond (same x k) v (read ks vs x d)
  read-cons k ks v vs x d = ap (λ (n : ℕ). get_or (v ∷ vs) n d) (place-cons x k ks) ∙ here (same x k)
    where
      here : (b : Bool) → get_or (v ∷ vs) (cond b 0 (suc (position_or_len (is_at (cmp x)) ks))) d ≡ cond b v (read ks vs x d)
      here true = refl
      here false = refl

  apart-keys : (a b x : K) → same a b ≡ false → same x b ≡ true → same x a ≡ false
  apart-keys a b x off on = here (same x a) refl
    where
      here : (t : Bool) → same x a ≡ t → t ≡ false
      here true e = absurd (both_ways (same a b) off (subst (λ (z : K). same z b ≡ true) (same-is x a e) on))
      here false e = refl

  flip-apart : (a b : K) → same a b ≡ false → same b a ≡ false
  flip-apart a b off = here (same b a) refl
    where
      here : (t : Bool) → same b a ≡ t → t ≡ false
      here true e = absurd (both_ways (same a b) off (subst (λ (z : K). same z b ≡ true) (same-is b a e) (same-self b)))
      here false e = refl

  -- a key that is none of them is put in: what is read of the others stays
  pub read-insert : {V : Type 0} (ks : List K) (vs : List V) (i : ℕ) (key : K) (v : V) (x : K) (d : V) → length vs ≡ length ks → i ≤ length ks → list_any (is_at (cmp key)) ks ≡ false
      → read (insert ks i key) (insert vs i v) x d ≡ cond (same x key) v (read ks vs x d)
  read-insert ks vs zero key v x d long le none = read-cons key ks v vs x d
  read-insert [] vs (suc i) key v x d long le none = absurd (omega (arith, le))
  read-insert (k ∷ ks) [] (suc i) key v x d long le none = absurd (omega (arith, long))
  read-insert (k ∷ ks) (w ∷ vs) (suc i) key v x d long le none =
      let parts = or_parts (same key k) (list_any (is_at (cmp key)) ks) none in
      let rest = read-insert ks vs i key v x d (omega (arith, long)) (omega (arith, le)) parts.1 in
      read-cons k (insert ks i key) w (insert vs i v) x d ∙ ap (λ (z : _). cond (same x k) w z) rest ∙ here (same x k) refl parts.0 ∙ ap (λ (z : _). cond (same x key) v z) (sym (read-cons k ks w vs x d))
    where
      here : (b : Bool) → same x k ≡ b → same key k ≡ false → cond b w (cond (same x key) v (read ks vs x d)) ≡ cond (same x key) v (cond b w (read ks vs x d))
      here true e off = rw (apart-keys key k x off e) refl
      here false e off = refl

  -- what is kept for one of them is set
  pub read-set : {V : Type 0} (ks : List K) (vs : List V) (key : K) (v : V) (x : K) (d : V) → length vs ≡ length ks → list_any (is_at (cmp key)) ks ≡ true
      → read ks (set vs (position_or_len (is_at (cmp key)) ks) v) x d ≡ cond (same x key) v (read ks vs x d)
  read-set [] vs key v x d long one = absurd cc
  read-set (k ∷ ks) [] key v x d long one = absurd (omega (arith, long))
  read-set (k ∷ ks) (w ∷ vs) key v x d long one = here (same key k) refl one (λ h. read-set ks vs key v x d (omega (arith, long)) h)
    where
      here : (b : Bool) → same key k ≡ b → (b || list_any (is_at (cmp key)) ks) ≡ true
          → (list_any (is_at (cmp key)) ks ≡ true → read ks (set vs (position_or_len (is_at (cmp key)) ks) v) x d ≡ cond (same x key) v (read ks vs x d))
          → read (k ∷ ks) (set (w ∷ vs) (position_or_len (is_at (cmp key)) (k ∷ ks)) v) x d ≡ cond (same x key) v (read (k ∷ ks) (w ∷ vs) x d)
      here true e one old =
          ap (λ (n : ℕ). read (k ∷ ks) (set (w ∷ vs) n v) x d) (place-cons key k ks ∙ ap (λ (b : Bool). cond b 0 (suc (position_or_len (is_at (cmp key)) ks))) e)
          ∙ read-cons k ks v vs x d ∙ last (same x k) refl
        where
          last : (c : Bool) → same x k ≡ c → cond c v (read ks vs x d) ≡ cond (same x key) v (read (k ∷ ks) (w ∷ vs) x d)
          last true h = rw (ap (same x) (same-is key k e) ∙ h) refl
          last false h = rw (ap (same x) (same-is key k e) ∙ h) (sym (read-cons k ks w vs x d ∙ rw h refl))
      here false e one old =
          ap (λ (n : ℕ). read (k ∷ ks) (set (w ∷ vs) n v) x d) (place-cons key k ks ∙ ap (λ (b : Bool). cond b 0 (suc (position_or_len (is_at (cmp key)) ks))) e)
          ∙ read-cons k ks w (set vs (position_or_len (is_at (cmp key)) ks) v) x d ∙ ap (λ (z : _). cond (same x k) w z) (old one) ∙ last (same x k) refl
          ∙ ap (λ (z : _). cond (same x key) v z) (sym (read-cons k ks w vs x d))
        where
          last : (c : Bool) → same x k ≡ c → cond c w (cond (same x key) v (read ks vs x d)) ≡ cond (same x key) v (cond c w (read ks vs x d))
          last true h = rw (apart-keys key k x e h) refl
          last false h = refl

  -- whether a key is one of them after one was put in
  pub one-insert : (ks : List K) (i : ℕ) (key x : K) → i ≤ length ks → list_any (is_at (cmp x)) (insert ks i key) ≡ (same x key || list_any (is_at (cmp x)) ks)
  one-insert ks zero key x le = refl
  one-insert [] (suc i) key x le = absurd (omega (arith, le))
  one-insert (k ∷ ks) (suc i) key x le = ap (λ (b : Bool). same x k || b) (one-insert ks i key x (omega (arith, le))) ∙ here (same x k) (same x key)
    where
      here : (a b : Bool) → (a || (b || list_any (is_at (cmp x)) ks)) ≡ (b || (a || list_any (is_at (cmp x)) ks))
      here true true = refl
      here true false = refl
      here false b = refl

  -- a key that stands later than one before which all others stand is another
  head-none : (k : K) (ks : List K) → IsStrictlySortedBy cmp (k ∷ ks) → list_any (is_at (cmp k)) ks ≡ false
  head-none k ks sorted = none-passes (is_at (cmp k)) ks (λ j d lt. ap is_eq (All-after_first cmp k ks sorted j d lt))

  pub read-none : {V : Type 0} (ks : List K) (vs : List V) (x : K) (d : V) → length vs ≡ length ks → list_any (is_at (cmp x)) ks ≡ false → read ks vs x d ≡ d
  read-none [] [] x d long none = refl
  read-none [] (w ∷ vs) x d long none = absurd (omega (arith, long))
  read-none (k ∷ ks) [] x d long none = absurd (omega (arith, long))
  read-none (k ∷ ks) (w ∷ vs) x d long none =
      let parts = or_parts (same x k) (list_any (is_at (cmp x)) ks) none in
      read-cons k ks w vs x d ∙ rw parts.0 (read-none ks vs x d (omega (arith, long)) parts.1)

  -- one of them is taken away: nothing is read of it any more
  pub read-remove : {V : Type 0} (ks : List K) (vs : List V) (key x : K) (d : V) → IsStrictlySortedBy cmp ks → length vs ≡ length ks → list_any (is_at (cmp key)) ks ≡ true
      → read (remove ks (position_or_len (is_at (cmp key)) ks)) (remove vs (position_or_len (is_at (cmp key)) ks)) x d ≡ cond (same x key) d (read ks vs x d)
  read-remove [] vs key x d sorted long one = absurd cc
  read-remove (k ∷ ks) [] key x d sorted long one = absurd (omega (arith, long))
  read-remove (k ∷ ks) (w ∷ vs) key x d sorted long one = here (same key k) refl one (λ h. read-remove ks vs key x d (sorted_tail cmp k ks sorted) (omega (arith, long)) h)
    where
      at : (b : Bool) → same key k ≡ b → position_or_len (is_at (cmp key)) (k ∷ ks) ≡ cond b 0 (suc (position_or_len (is_at (cmp key)) ks))
      at b e = place-cons key k ks ∙ ap (λ (b : Bool). cond b 0 (suc (position_or_len (is_at (cmp key)) ks))) e

      here : (b : Bool) → same key k ≡ b → (b || list_any (is_at (cmp key)) ks) ≡ true
          → (list_any (is_at (cmp key)) ks ≡ true → read (remove ks (position_or_len (is_at (cmp key)) ks)) (remove vs (position_or_len (is_at (cmp key)) ks)) x d ≡ cond (same x key) d (read ks vs x d))
          → read (remove (k ∷ ks) (position_or_len (is_at (cmp key)) (k ∷ ks))) (remove (w ∷ vs) (position_or_len (is_at (cmp key)) (k ∷ ks))) x d ≡ cond (same x key) d (read (k ∷ ks) (w ∷ vs) x d)
      here true e one old =
          ap (λ (n : ℕ). read (remove (k ∷ ks) n) (remove (w ∷ vs) n) x d) (at true e) ∙ last (same x k) refl
        where
          last : (c : Bool) → same x k ≡ c → read ks vs x d ≡ cond (same x key) d (read (k ∷ ks) (w ∷ vs) x d)
          last true h = rw (ap (same x) (same-is key k e) ∙ h) (read-none ks vs x d (omega (arith, long)) (subst (λ (z : K). list_any (is_at (cmp z)) ks ≡ false) (sym (same-is x k h)) (head-none k ks sorted)))
          last false h = rw (ap (same x) (same-is key k e) ∙ h) (sym (read-cons k ks w vs x d ∙ rw h refl))
      here false e one old =
          ap (λ (n : ℕ). read (remove (k ∷ ks) n) (remove (w ∷ vs) n) x d) (at false e)
          ∙ read-cons k (remove ks (position_or_len (is_at (cmp key)) ks)) w (remove vs (position_or_len (is_at (cmp key)) ks)) x d ∙ ap (λ (z : _). cond (same x k) w z) (old one)
          ∙ last (same x k) refl ∙ ap (λ (z : _). cond (same x key) d z) (sym (read-cons k ks w vs x d))
        where
          last : (c : Bool) → same x k ≡ c → cond c w (cond (same x key) d (read ks vs x d)) ≡ cond (same x key) d (cond c w (read ks vs x d))
          last true h = rw (apart-keys key k x e h) refl
          last false h = refl

  pub one-remove : (ks : List K) (key x : K) → IsStrictlySortedBy cmp ks → list_any (is_at (cmp key)) ks ≡ true
      → list_any (is_at (cmp x)) (remove ks (position_or_len (is_at (cmp key)) ks)) ≡ cond (same x key) false (list_any (is_at (cmp x)) ks)
  one-remove [] key x sorted one = absurd cc
  one-remove (k ∷ ks) key x sorted one = here (same key k) refl one (λ h. one-remove ks key x (sorted_tail cmp k ks sorted) h)
    where
      at : (b : Bool) → same key k ≡ b → position_or_len (is_at (cmp key)) (k ∷ ks) ≡ cond b 0 (suc (position_or_len (is_at (cmp key)) ks))
      at b e = place-cons key k ks ∙ ap (λ (b : Bool). cond b 0 (suc (position_or_len (is_at (cmp key)) ks))) e

      here : (b : Bool) → same key k ≡ b → (b || list_any (is_at (cmp key)) ks) ≡ true
          → (list_any (is_at (cmp key)) ks ≡ true → list_any (is_at (cmp x)) (remove ks (position_or_len (is_at (cmp key)) ks)) ≡ cond (same x key) false (list_any (is_at (cmp x)) ks))
          → list_any (is_at (cmp x)) (remove (k ∷ ks) (position_or_len (is_at (cmp key)) (k ∷ ks))) ≡ cond (same x key) false (list_any (is_at (cmp x)) (k ∷ ks))
      here true e one old = ap (λ (n : ℕ). list_any (is_at (cmp x)) (remove (k ∷ ks) n)) (at true e) ∙ last (same x k) refl
        where
          last : (c : Bool) → same x k ≡ c → list_any (is_at (cmp x)) ks ≡ cond (same x key) false (same x k || list_any (is_at (cmp x)) ks)
          last true h = rw (ap (same x) (same-is key k e) ∙ h) (subst (λ (z : K). list_any (is_at (cmp z)) ks ≡ false) (sym (same-is x k h)) (head-none k ks sorted))
          last false h = rw (ap (same x) (same-is key k e) ∙ h, h) refl
      here false e one old = ap (λ (n : ℕ). list_any (is_at (cmp x)) (remove (k ∷ ks) n)) (at false e) ∙ ap (λ (b : Bool). same x k || b) (old one) ∙ last (same x k) refl
        where
          last : (c : Bool) → same x k ≡ c → (c || cond (same x key) false (list_any (is_at (cmp x)) ks)) ≡ cond (same x key) false (c || list_any (is_at (cmp x)) ks)
          last true h = rw (apart-keys key k x e h) refl
          last false h = refl

  -- what is a function of each key is read at its place
  pub read-map : {V : Type 0} (f : K → V) (ks : List K) (x : K) (d : V) → list_any (is_at (cmp x)) ks ≡ true → read ks (map f ks) x d ≡ f x
  read-map f [] x d one = absurd cc
  read-map f (k ∷ ks) x d one = read-cons k ks (f k) (map f ks) x d ∙ here (same x k) refl one (λ h. read-map f ks x d h)
    where
      here : (b : Bool) → same x k ≡ b → (b || list_any (is_at (cmp x)) ks) ≡ true → (list_any (is_at (cmp x)) ks ≡ true → read ks (map f ks) x d ≡ f x) → cond b (f k) (read ks (map f ks) x d) ≡ f x
      here true e one old = ap f (sym (same-is x k e))
      here false e one old = old one

  -- what is kept of all keys, where that of none changes
  pub map-off : {V : Type 0} (f h : K → V) (ks : List K) (x : K) → list_any (is_at (cmp x)) ks ≡ false → ((y : K) → same x y ≡ false → f y ≡ h y) → map f ks ≡ map h ks
  map-off f h [] x none off = refl
  map-off f h (k ∷ ks) x none off =
      let parts = or_parts (same x k) (list_any (is_at (cmp x)) ks) none in
      let first : f k ≡ h k = off k parts.0 in
      let rest : map f ks ≡ map h ks = map-off f h ks x parts.1 off in cc

  -- and where that of one changes
  pub map-at : {V : Type 0} (f h : K → V) (ks : List K) (x : K) → IsStrictlySortedBy cmp ks → list_any (is_at (cmp x)) ks ≡ true → ((y : K) → same x y ≡ false → f y ≡ h y)
      → set (map f ks) (position_or_len (is_at (cmp x)) ks) (h x) ≡ map h ks
  map-at f h [] x sorted one off = absurd cc
  map-at f h (k ∷ ks) x sorted one off = here (same x k) refl one (λ q. map-at f h ks x (sorted_tail cmp k ks sorted) q off)
    where
      at : (b : Bool) → same x k ≡ b → position_or_len (is_at (cmp x)) (k ∷ ks) ≡ cond b 0 (suc (position_or_len (is_at (cmp x)) ks))
      at b e = place-cons x k ks ∙ ap (λ (b : Bool). cond b 0 (suc (position_or_len (is_at (cmp x)) ks))) e

      here : (b : Bool) → same x k ≡ b → (b || list_any (is_at (cmp x)) ks) ≡ true → (list_any (is_at (cmp x)) ks ≡ true → set (map f ks) (position_or_len (is_at (cmp x)) ks) (h x) ≡ map h ks)
          → set (map f (k ∷ ks)) (position_or_len (is_at (cmp x)) (k ∷ ks)) (h x) ≡ map h (k ∷ ks)
      here true e one old = ap (λ (n : ℕ). set (map f (k ∷ ks)) n (h x)) (at true e)
          ∙ (let first : h x ≡ h k = ap h (same-is x k e) in let rest : map f ks ≡ map h ks = map-off f h ks x (subst (λ (z : K). list_any (is_at (cmp z)) ks ≡ false) (sym (same-is x k e)) (head-none k ks sorted)) off in cc)
      here false e one old = ap (λ (n : ℕ). set (map f (k ∷ ks)) n (h x)) (at false e) ∙ (let first : f k ≡ h k = off k e in let rest = old one in cc)
