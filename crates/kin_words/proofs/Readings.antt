-- clap's faults on words, against the items that the words write.
use Rattle.std.proofs.Common.{◌≡◌, ◌∙◌, ◌⊎◌, inl, inr, ◌&&◌, not, cond, codes, List, [], ◌∷◌, ◌++◌, map, Bool, true, false, refl, sym, ap, ap₂, subst, Option, Some, None}
use Rattle.std.specs.Prelude.{fold, option_map, is_some, unwrap_or, ◌==◌}
use Rattle.std.specs.List.{list_all}
use Rattle.std.proofs.lemmas.Bool.{true≢false, and_parts}
use Rattle.std.proofs.lemmas.List.{append_assoc, append-nil, map-append}
use Rattle.clap.specs.Lexer.{long_of, strip_byte, long_of_rest}
use Rattle.std.specs.Prelude.{option_and_then}
use Rattle.clap.specs.Kinds.{or_else}
use Rattle.clap.specs.Walk.{Held, Waiting, idle, option, has_row, walked, settled, reacted}
use Rattle.clap.specs.Faults.{walk_fault, settle_fault}
use Rattle.clap.specs.declared.error.kind.ErrorKind.TheVariants as kind
use Rattle.kin_words.specs.Items.{Text, Item, flag, spaced, joined, name_of, has, is_taken, are_new, is_value, is_item}
use Rattle.kin_words.proofs.Walks.{full_option, full_flag, rules_for, row_for, row_of, taken_row, option_used, flag_used, faulty, both_clear, again, option_use, flag_use, IsLong, IsPlain, at, joined_step, spaced_step, flag_step, valued_flag, unknown, stray, value_step, wanting_fault, pending_fault, pending_rows, total, one_step, fails_at_once}

-- ---- the items of words

module _ (os fs : List Text) where
  abbrev pub begun_at : Text → Option Text → (Option Text → Option (List Item)) → Option (List Item)
  begun_at name None next = cond (has name os) (next (Some name)) (cond (has name fs) (option_map (λ is. flag name ∷ is) (next None)) None)
  begun_at name (Some v) next = cond (has name os) (option_map (λ is. joined name v ∷ is) (next None)) None

  abbrev pub begun : Option (Text × Option Text) → (Option Text → Option (List Item)) → Option (List Item)
  begun None next = None
  begun (Some p) next = begun_at p.0 p.1 next

  -- the items that words write, where an option may wait for its value
  abbrev pub read : List Text → Option Text → Option (List Item)
  read [] None = Some []
  read [] (Some name) = None
  read (w ∷ ws) None = begun (long_of w) (read ws)
  read (w ∷ ws) (Some name) = option_map (λ is. spaced name w ∷ is) (read ws None)

abbrev pub IsFormed : Text → Type 0
IsFormed w = ((name : Text) × (v : Option Text) × IsLong w name v) ⊎ IsPlain w

abbrev pub AreFormed : List Text → Type 0
AreFormed [] = Unit {0}
AreFormed (w ∷ ws) = IsFormed w × AreFormed ws

abbrev pub waits : Option Text → Waiting
waits None = idle
waits (Some name) = option name

pub none≢some : {X : Type 0} (x : X) → None ≡ Some x → ⊥
none≢some x e = true≢false (sym (ap is_some e))

untaken : (b : Bool) → again b ≡ [] → b ≡ false
untaken true e = faulty _ _ e
untaken false e = refl

module _ (app : Text) (os fs : List Text) where
  -- what is held stands for these items
  abbrev pub Stands : Option Text → Held → List Item → Type 0
  Stands None h items = (settled (rules_for os fs) h).rows ≡ map row_of items
  Stands (Some name) h items = (has name os ≡ true) × (h ≡ record { rows = map row_of items; pending = Some (name, []); skip = h.skip })

  abbrev pub end_of : Held → Waiting → List Text → Held
  end_of h wt ws = (fold (walked (rules_for os fs) []) (at app os fs h wt) ws).held

  pub record Found (before : List Item) (ws : List Text) (p : Option Text) (end : Held) : Type 0 where
    pub items : List Item
    pub is : read os fs ws p ≡ Some items
    pub new : are_new before items ≡ true
    pub known : list_all (is_item (record { options = os; flags = fs })) items ≡ true
    pub rows : (settled (rules_for os fs) end).rows ≡ map row_of (before ++ items)

  grown : (before : List Item) (item : Item) (w : Text) (ws : List Text) (p : Option Text) (end : Held) → is_taken (name_of item) before ≡ false
      → is_item (record { options = os; flags = fs }) item ≡ true → read os fs (w ∷ ws) p ≡ option_map (λ is. item ∷ is) (read os fs ws None) → Found (before ++ item ∷ []) ws None end → Found before (w ∷ ws) p end
  grown before item w ws p end none k r f = record {
    items = item ∷ f.items;
    is = r ∙ ap (option_map (λ is. item ∷ is)) f.is;
    new = ap (λ b. not b && are_new (before ++ item ∷ []) f.items) none ∙ f.new;
    known = ap₂ (λ a b. a && b) k f.known;
    rows = f.rows ∙ ap (map row_of) (append_assoc before (item ∷ []) f.items);
  }

  abbrev pub Next : List Text → Type 0
  Next ws = (p : Option Text) (h : Held) (before : List Item) → Stands p h before → total app os fs h (waits p) ws ≡ [] → Found before ws p (end_of h (waits p) ws)

  -- where nothing fails, what is held has no fault
  calm_long : (w : Text) (ws : List Text) (name : Text) (v : Option Text) → IsLong w name v → (h : Held) (wt : Waiting) → total app os fs h wt (w ∷ ws) ≡ []
      → (b c : Bool) → has name os ≡ b → has name fs ≡ c → settle_fault (rules_for os fs) false h ≡ []
  calm_long w ws name (Some v) l h wt clear true c o f =
      let parts = both_clear _ _ (sym (one_step app os fs h wt w _ _ idle (joined_step app os fs h wt w name v l o) ws) ∙ clear) in
      (both_clear (settle_fault (rules_for os fs) false h) _ parts.0).0
  calm_long w ws name None l h wt clear true c o f =
      (both_clear _ _ (sym (one_step app os fs h wt w _ _ (option name) (spaced_step app os fs h wt w name l o) ws) ∙ clear)).0
  calm_long w ws name None l h wt clear false true o f =
      let parts = both_clear _ _ (sym (one_step app os fs h wt w _ _ idle (flag_step app os fs h wt w name l o f) ws) ∙ clear) in
      (both_clear (settle_fault (rules_for os fs) false h) _ parts.0).0
  calm_long w ws name (Some v) l h wt clear false true o f = fails_at_once app os fs h wt w ws _ _ (valued_flag app os fs h wt w name v l o f) clear
  calm_long w ws name v l h wt clear false false o f = fails_at_once app os fs h wt w ws _ _ (unknown app os fs h wt w name v l o f) clear

  calm_first : (ws : List Text) → AreFormed ws → (h : Held) → total app os fs h idle ws ≡ [] → settle_fault (rules_for os fs) false h ≡ []
  unfolding total walk_fault
  calm_first [] f h clear = clear
  calm_first (w ∷ ws) (inl (name, v, l), f) h clear = calm_long w ws name v l h idle clear (has name os) (has name fs) refl refl
  calm_first (w ∷ ws) (inr l, f) h clear = fails_at_once app os fs h idle w ws _ _ (stray app os fs h w l) clear

  wants : (name : Text) (h : Held) (before : List Item) → Stands (Some name) h before → settle_fault (rules_for os fs) false h ≡ kind.InvalidValue ∷ []
  wants name h before st = ap (settle_fault (rules_for os fs) false) st.1 ∙ wanting_fault app os fs (map row_of before) h.skip name st.0

  module _ (w : Text) (ws : List Text) (formed : AreFormed ws) (next : Next ws) where
    read_joined : (name v : Text) → IsLong w name (Some v) → has name os ≡ true → read os fs (w ∷ ws) None ≡ option_map (λ is. joined name v ∷ is) (read os fs ws None)
    read_joined name v l o = ap (λ x. begun os fs x (read os fs ws)) l.long ∙ ap (λ b. cond b (option_map (λ is. joined name v ∷ is) (read os fs ws None)) None) o

    found_joined : (name v : Text) (l : IsLong w name (Some v)) (o : has name os ≡ true) (h : Held) (before : List Item) → Stands None h before
        → total app os fs h idle (w ∷ ws) ≡ [] → Found before (w ∷ ws) None (end_of h idle (w ∷ ws))
    found_joined name v l o h before st clear =
        let rows = (settled (rules_for os fs) h).rows in
        let s = joined_step app os fs h idle w name v l o in
        let parts = both_clear _ _ (sym (one_step app os fs h idle w _ _ idle s ws) ∙ clear) in
        let calm = both_clear (settle_fault (rules_for os fs) false h) _ parts.0 in
        let none : has_row name rows ≡ false = untaken (has_row name rows) (sym (option_use name v rows) ∙ calm.1) in
        let free : is_taken name before ≡ false = sym (taken_row name before) ∙ ap (has_row name) (sym st) ∙ none in
        let stands = option_used name rows none v ∙ ap (λ rs. rs ++ row_for (full_option name) (v ∷ []) ∷ []) st ∙ sym (map-append row_of before (joined name v ∷ [])) in
        let found = next None (reacted (rules_for os fs) (full_option name) (v ∷ []) h) (before ++ joined name v ∷ []) stands parts.1 in
        subst (λ W. Found before (w ∷ ws) None (fold (walked (rules_for os fs) []) W ws).held) (sym s.walks)
        (grown before (joined name v) w ws None _ free (ap₂ (λ a b. a && b) o l.fine) (read_joined name v l o) found)

    read_flag : (name : Text) → IsLong w name None → has name os ≡ false → has name fs ≡ true → read os fs (w ∷ ws) None ≡ option_map (λ is. flag name ∷ is) (read os fs ws None)
    read_flag name l o f =
        ap (λ x. begun os fs x (read os fs ws)) l.long
        ∙ ap₂ (λ b c. cond b (read os fs ws (Some name)) (cond c (option_map (λ is. flag name ∷ is) (read os fs ws None)) None)) o f

    found_flag : (name : Text) (l : IsLong w name None) (o : has name os ≡ false) (f : has name fs ≡ true) (h : Held) (before : List Item) → Stands None h before
        → total app os fs h idle (w ∷ ws) ≡ [] → Found before (w ∷ ws) None (end_of h idle (w ∷ ws))
    found_flag name l o f h before st clear =
        let rows = (settled (rules_for os fs) h).rows in
        let s = flag_step app os fs h idle w name l o f in
        let parts = both_clear _ _ (sym (one_step app os fs h idle w _ _ idle s ws) ∙ clear) in
        let calm = both_clear (settle_fault (rules_for os fs) false h) _ parts.0 in
        let none : has_row name rows ≡ false = untaken (has_row name rows) (sym (flag_use name rows) ∙ calm.1) in
        let free : is_taken name before ≡ false = sym (taken_row name before) ∙ ap (has_row name) (sym st) ∙ none in
        let stands = flag_used name rows none ∙ ap (λ rs. rs ++ row_for (full_flag name) (codes "true" ∷ []) ∷ []) st ∙ sym (map-append row_of before (flag name ∷ [])) in
        let found = next None (reacted (rules_for os fs) (full_flag name) [] h) (before ++ flag name ∷ []) stands parts.1 in
        subst (λ W. Found before (w ∷ ws) None (fold (walked (rules_for os fs) []) W ws).held) (sym s.walks)
        (grown before (flag name) w ws None _ free f (read_flag name l o f) found)

    read_spaced : (name : Text) → IsLong w name None → has name os ≡ true → read os fs (w ∷ ws) None ≡ read os fs ws (Some name)
    read_spaced name l o =
        ap (λ x. begun os fs x (read os fs ws)) l.long
        ∙ ap (λ b. cond b (read os fs ws (Some name)) (cond (has name fs) (option_map (λ is. flag name ∷ is) (read os fs ws None)) None)) o

    found_spaced : (name : Text) (l : IsLong w name None) (o : has name os ≡ true) (h : Held) (before : List Item) → Stands None h before
        → total app os fs h idle (w ∷ ws) ≡ [] → Found before (w ∷ ws) None (end_of h idle (w ∷ ws))
    found_spaced name l o h before st clear =
        let s = spaced_step app os fs h idle w name l o in
        let parts = both_clear _ _ (sym (one_step app os fs h idle w _ _ (option name) s ws) ∙ clear) in
        let found = next (Some name) _ before (o, ap (λ rs. record { rows = rs; pending = Some (name, []); skip = h.skip }) st) parts.1 in
        subst (λ W. Found before (w ∷ ws) None (fold (walked (rules_for os fs) []) W ws).held) (sym s.walks)
        (record { items = found.items; is = read_spaced name l o ∙ found.is; new = found.new; known = found.known; rows = found.rows })

    found_long : (name : Text) (v : Option Text) (l : IsLong w name v) (h : Held) (before : List Item) → Stands None h before
        → total app os fs h idle (w ∷ ws) ≡ [] → (b c : Bool) → has name os ≡ b → has name fs ≡ c → Found before (w ∷ ws) None (end_of h idle (w ∷ ws))
    found_long name (Some v) l h before st clear true c o f = found_joined name v l o h before st clear
    found_long name None l h before st clear true c o f = found_spaced name l o h before st clear
    found_long name None l h before st clear false true o f = found_flag name l o f h before st clear
    found_long name (Some v) l h before st clear false true o f = fails_at_once app os fs h idle w ws _ _ (valued_flag app os fs h idle w name v l o f) clear
    found_long name v l h before st clear false false o f = fails_at_once app os fs h idle w ws _ _ (unknown app os fs h idle w name v l o f) clear

    -- a value
    found_value : (name : Text) → IsPlain w → (h : Held) (before : List Item) → Stands (Some name) h before
        → total app os fs h (option name) (w ∷ ws) ≡ [] → Found before (w ∷ ws) (Some name) (end_of h (option name) (w ∷ ws))
    found_value name l h before st clear =
        let rows = map row_of before in
        let o = st.0 in
        let s = value_step app os fs rows h.skip w name l o in
        let begins : total app os fs (record { rows = rows; pending = Some (name, []); skip = h.skip }) (option name) (w ∷ ws) ≡ [] =
        subst (λ g. total app os fs g (option name) (w ∷ ws) ≡ []) st.1 clear in
        let rest = sym (one_step app os fs _ (option name) w _ _ idle s ws) ∙ begins in
        let calm = calm_first ws formed _ rest in
        let none : has_row name rows ≡ false = untaken (has_row name rows) (sym (pending_fault app os fs rows h.skip name o w) ∙ calm) in
        let free : is_taken name before ≡ false = sym (taken_row name before) ∙ none in
        let stands = pending_rows app os fs rows h.skip name o w none ∙ sym (map-append row_of before (spaced name w ∷ [])) in
        let found = next None _ (before ++ spaced name w ∷ []) stands rest in
        subst (λ g. Found before (w ∷ ws) (Some name) (end_of g (option name) (w ∷ ws))) (sym st.1)
        (subst (λ W. Found before (w ∷ ws) (Some name) (fold (walked (rules_for os fs) []) W ws).held) (sym s.walks)
        (grown before (spaced name w) w ws (Some name) _ free (ap₂ (λ a b. a && b) o l.fine) refl found))

    found_word : IsFormed w → (p : Option Text) (h : Held) (before : List Item) → Stands p h before → total app os fs h (waits p) (w ∷ ws) ≡ []
        → Found before (w ∷ ws) p (end_of h (waits p) (w ∷ ws))
    found_word (inl (name, v, l)) None h before st clear = found_long name v l h before st clear (has name os) (has name fs) refl refl
    found_word (inr l) None h before st clear = fails_at_once app os fs h idle w ws _ _ (stray app os fs h w l) clear
    found_word (inr l) (Some n) h before st clear = found_value n l h before st clear
    found_word (inl (name, v, l)) (Some n) h before st clear =
        faulty _ _ (sym (wants n h before st) ∙ calm_long w ws name v l h (option n) clear (has name os) (has name fs) refl refl)

  -- where clap finds no fault, the words write items of the command
  pub items_found : (ws : List Text) → AreFormed ws → Next ws
  unfolding total walk_fault
  items_found [] f None h before st clear = record { items = []; is = refl; new = refl; known = refl; rows = st ∙ ap (map row_of) (sym (append-nil before)) }
  items_found [] f (Some n) h before st clear = faulty _ _ (sym (wants n h before st) ∙ clear)
  items_found (w ∷ ws) f p h before st clear = found_word w ws f.1 (items_found ws f.1) f.0 p h before st clear

-- ---- the other way

long_no_value : (w name : Text) (v : Option Text) → IsLong w name v → is_value w ≡ true → ⊥
long_no_value [] name v l h = none≢some (name, v) l.long
long_no_value (b ∷ bs) name v l h = go (b == 45) h l.long
  where
    go : (c : Bool) → not c ≡ true → option_and_then long_of_rest (option_and_then (strip_byte 45) (cond c (Some bs) None)) ≡ Some (name, v) → ⊥
    go true h e = true≢false (sym h)
    go false h e = none≢some (name, v) e

-- the value that an item has in a word of its own is one
abbrev pub is_fine : Item → Bool
is_fine (flag name) = true
is_fine (spaced name value) = is_value value
is_fine (joined name value) = true

pub some_is : {X : Type 0} (x y : X) → Some x ≡ Some y → x ≡ y
some_is x y e = ap (λ o. unwrap_or o x) e

pub one_more : (item : Item) (o : Option (List Item)) (items : List Item) → option_map (λ is. item ∷ is) o ≡ Some items → (rest : List Item) × (o ≡ Some rest) × (items ≡ item ∷ rest)
one_more item None items e = absurd (none≢some items e)
one_more item (Some rest) items e = (rest, refl, sym (some_is (item ∷ rest) items e))

module _ (app : Text) (os fs : List Text) where
  abbrev pub IsCalm : Option Text → Held → Type 0
  IsCalm None h = settle_fault (rules_for os fs) false h ≡ []
  IsCalm (Some name) h = Unit {0}

  abbrev pub Passes : List Text → Type 0
  Passes ws = (p : Option Text) (h : Held) (before : List Item) → Stands app os fs p h before → IsCalm p h → (items : List Item) → read os fs ws p ≡ Some items
      → list_all is_fine items ≡ true → are_new before items ≡ true → total app os fs h (waits p) ws ≡ []

  fresh : (item : Item) (before items rest : List Item) → items ≡ item ∷ rest → are_new before items ≡ true → (is_taken (name_of item) before ≡ false) × (are_new (before ++ item ∷ []) rest ≡ true)
  fresh item before items rest is new =
      let parts = and_parts (not (is_taken (name_of item) before)) _ (ap (are_new before) (sym is) ∙ new) in
      (turned (is_taken (name_of item) before) parts.0, parts.1)
    where
      turned : (b : Bool) → not b ≡ true → b ≡ false
      turned false e = refl
      turned true e = absurd (true≢false (sym e))

  module _ (w : Text) (ws : List Text) (next : Passes ws) where
    pass_joined : (name v : Text) (l : IsLong w name (Some v)) (o : has name os ≡ true) (h : Held) (before : List Item) → Stands app os fs None h before → IsCalm None h
        → (items : List Item) → read os fs (w ∷ ws) None ≡ Some items → list_all is_fine items ≡ true → are_new before items ≡ true → total app os fs h idle (w ∷ ws) ≡ []
    pass_joined name v l o h before st calm items is fine new =
        let rows = (settled (rules_for os fs) h).rows in
        let s = joined_step app os fs h idle w name v l o in
        let read_is = ap (λ x. begun os fs x (read os fs ws)) l.long ∙ ap (λ b. cond b (option_map (λ is. joined name v ∷ is) (read os fs ws None)) None) o in
        let rest = one_more (joined name v) (read os fs ws None) items (sym read_is ∙ is) in
        let free = fresh (joined name v) before items rest.0 rest.2 new in
        let none : has_row name rows ≡ false = ap (has_row name) st ∙ taken_row name before ∙ free.0 in
        let stands = option_used name rows none v ∙ ap (λ rs. rs ++ row_for (full_option name) (v ∷ []) ∷ []) st ∙ sym (map-append row_of before (joined name v ∷ [])) in
        let after = next None (reacted (rules_for os fs) (full_option name) (v ∷ []) h) (before ++ joined name v ∷ []) stands refl rest.0 rest.1
        (ap (list_all is_fine) (sym rest.2) ∙ fine) free.1 in
        one_step app os fs h idle w _ _ idle s ws ∙ ap₂ or_else (ap₂ or_else calm (option_use name v rows ∙ ap again none)) after

    pass_flag : (name : Text) (l : IsLong w name None) (o : has name os ≡ false) (f : has name fs ≡ true) (h : Held) (before : List Item) → Stands app os fs None h before → IsCalm None h
        → (items : List Item) → read os fs (w ∷ ws) None ≡ Some items → list_all is_fine items ≡ true → are_new before items ≡ true → total app os fs h idle (w ∷ ws) ≡ []
    pass_flag name l o f h before st calm items is fine new =
        let rows = (settled (rules_for os fs) h).rows in
        let s = flag_step app os fs h idle w name l o f in
        let read_is = ap (λ x. begun os fs x (read os fs ws)) l.long
        ∙ ap₂ (λ b c. cond b (read os fs ws (Some name)) (cond c (option_map (λ is. flag name ∷ is) (read os fs ws None)) None)) o f in
        let rest = one_more (flag name) (read os fs ws None) items (sym read_is ∙ is) in
        let free = fresh (flag name) before items rest.0 rest.2 new in
        let none : has_row name rows ≡ false = ap (has_row name) st ∙ taken_row name before ∙ free.0 in
        let stands = flag_used name rows none ∙ ap (λ rs. rs ++ row_for (full_flag name) (codes "true" ∷ []) ∷ []) st ∙ sym (map-append row_of before (flag name ∷ [])) in
        let after = next None (reacted (rules_for os fs) (full_flag name) [] h) (before ++ flag name ∷ []) stands refl rest.0 rest.1
        (ap (list_all is_fine) (sym rest.2) ∙ fine) free.1 in
        one_step app os fs h idle w _ _ idle s ws ∙ ap₂ or_else (ap₂ or_else calm (flag_use name rows ∙ ap again none)) after

    pass_spaced : (name : Text) (l : IsLong w name None) (o : has name os ≡ true) (h : Held) (before : List Item) → Stands app os fs None h before → IsCalm None h
        → (items : List Item) → read os fs (w ∷ ws) None ≡ Some items → list_all is_fine items ≡ true → are_new before items ≡ true → total app os fs h idle (w ∷ ws) ≡ []
    pass_spaced name l o h before st calm items is fine new =
        let s = spaced_step app os fs h idle w name l o in
        let read_is = ap (λ x. begun os fs x (read os fs ws)) l.long
        ∙ ap (λ b. cond b (read os fs ws (Some name)) (cond (has name fs) (option_map (λ is. flag name ∷ is) (read os fs ws None)) None)) o in
        let after = next (Some name) _ before (o, ap (λ rs. record { rows = rs; pending = Some (name, []); skip = h.skip }) st) tt items (sym read_is ∙ is) fine new in
        one_step app os fs h idle w _ _ (option name) s ws ∙ ap₂ or_else calm after

    pass_long : (name : Text) (v : Option Text) (l : IsLong w name v) (h : Held) (before : List Item) → Stands app os fs None h before → IsCalm None h
        → (items : List Item) → read os fs (w ∷ ws) None ≡ Some items → list_all is_fine items ≡ true → are_new before items ≡ true
        → (b c : Bool) → has name os ≡ b → has name fs ≡ c → total app os fs h idle (w ∷ ws) ≡ []
    pass_long name (Some v) l h before st calm items is fine new true c o f = pass_joined name v l o h before st calm items is fine new
    pass_long name None l h before st calm items is fine new true c o f = pass_spaced name l o h before st calm items is fine new
    pass_long name None l h before st calm items is fine new false true o f = pass_flag name l o f h before st calm items is fine new
    pass_long name None l h before st calm items is fine new false false o f =
        absurd (none≢some items (sym (ap (λ x. begun os fs x (read os fs ws)) l.long
        ∙ ap₂ (λ b c. cond b (read os fs ws (Some name)) (cond c (option_map (λ is. flag name ∷ is) (read os fs ws None)) None)) o f) ∙ is))
    pass_long name (Some v) l h before st calm items is fine new false c o f =
        absurd (none≢some items (sym (ap (λ x. begun os fs x (read os fs ws)) l.long
        ∙ ap (λ b. cond b (option_map (λ is. joined name v ∷ is) (read os fs ws None)) None) o) ∙ is))

    pass_value : (name : Text) → IsPlain w → (h : Held) (before : List Item) → Stands app os fs (Some name) h before
        → (items : List Item) → read os fs (w ∷ ws) (Some name) ≡ Some items → list_all is_fine items ≡ true → are_new before items ≡ true → total app os fs h (option name) (w ∷ ws) ≡ []
    pass_value name l h before st items is fine new =
        let rows = map row_of before in
        let o = st.0 in
        let s = value_step app os fs rows h.skip w name l o in
        let rest = one_more (spaced name w) (read os fs ws None) items is in
        let free = fresh (spaced name w) before items rest.0 rest.2 new in
        let none : has_row name rows ≡ false = taken_row name before ∙ free.0 in
        let stands = pending_rows app os fs rows h.skip name o w none ∙ sym (map-append row_of before (spaced name w ∷ [])) in
        let calm = pending_fault app os fs rows h.skip name o w ∙ ap again none in
        let after = next None _ (before ++ spaced name w ∷ []) stands calm rest.0 rest.1
        (and_parts (is_value w) _ (ap (list_all is_fine) (sym rest.2) ∙ fine)).1 free.1 in
        subst (λ g. total app os fs g (option name) (w ∷ ws) ≡ []) (sym st.1) (one_step app os fs _ (option name) w _ _ idle s ws ∙ after)

    pass_word : IsFormed w → (p : Option Text) (h : Held) (before : List Item) → Stands app os fs p h before → IsCalm p h → (items : List Item) → read os fs (w ∷ ws) p ≡ Some items
        → list_all is_fine items ≡ true → are_new before items ≡ true → total app os fs h (waits p) (w ∷ ws) ≡ []
    pass_word (inl (name, v, l)) None h before st calm items is fine new = pass_long name v l h before st calm items is fine new (has name os) (has name fs) refl refl
    pass_word (inr l) None h before st calm items is fine new = absurd (none≢some items (ap (λ x. begun os fs x (read os fs ws)) (sym l.long) ∙ is))
    pass_word (inr l) (Some n) h before st calm items is fine new = pass_value n l h before st items is fine new
    pass_word (inl (name, v, l)) (Some n) h before st calm items is fine new =
        let rest = one_more (spaced n w) (read os fs ws None) items is in
        absurd (long_no_value w name v l (and_parts (is_value w) _ (ap (list_all is_fine) (sym rest.2) ∙ fine)).0)

  -- where the words write items of the command, clap finds no fault
  pub items_pass : (ws : List Text) → AreFormed ws → Passes ws
  unfolding total walk_fault
  items_pass [] f None h before st calm items is fine new = calm
  items_pass [] f (Some n) h before st calm items is fine new = absurd (none≢some items is)
  items_pass (w ∷ ws) f p h before st calm items is fine new = pass_word w ws (items_pass ws f.1) f.0 p h before st calm items is fine new
