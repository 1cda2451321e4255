-- What is counted of a view is what the rules count on its graph.
use Rattle.std.proofs.Common.{◌≡◌, ◌∙◌, ℕ, Bool, true, false, cond, List, [], ◌∷◌, length, count_by, not, eqb, refl, sym, ap, subst, arith}
use Rattle.std.proofs.lemmas.Bool.{eqb-true}
use Rattle.std.proofs.lemmas.List.Sorted.{length_permutation}
use Rattle.kin_ids.specs.declared.ids.User.{User}
use Rattle.kin_ids.specs.declared.ops.Half.{Half}
use Rattle.kin_ids.specs.Users.{has_user}
use Rattle.kin_ids.specs.Graph.{vertices, tag_users}
use Rattle.kin_ids.specs.Parts.{PartView}
use Rattle.kin_store.specs.Rows.{is_none}
use Rattle.kin_graph.specs.Views.{is_vertex}
use Rattle.kin_graph.proofs.Wholes.{whole-vertex, whole-in_use}
use Rattle.kin_counts.specs.Counts.{CountLaw}

-- who is no vertex has no halves
pub none-empty : {X : Type 0} (xs : List X) → is_none xs ≡ true → xs ≡ []
none-empty [] e = refl
none-empty (x ∷ xs) e = absurd (let none : length (x ∷ xs) ≡ 0 = eqb-true _ 0 e in omega (arith, none))

pub record IsApart (v : PartView) (u : User) : Type 0 where
  pub out : is_none (v.out u) ≡ true
  pub inn : is_none (v.inn u) ≡ true
  pub mentioners : is_none (v.mentioners u) ≡ true

pub apart : (v : PartView) (u : User) → is_vertex v u ≡ false → IsApart v u
apart v u e = by_tests (is_none (v.out u)) (is_none (v.inn u)) (is_none (v.mentions u)) (is_none (v.mentioners u))
    (is_none (v.uses u)) refl refl refl e where
      by_tests : (o i m n s : Bool) → is_none (v.out u) ≡ o → is_none (v.inn u) ≡ i → is_none (v.mentioners u) ≡ n
          → not (Rattle.std.proofs.Common.◌&&◌ (Rattle.std.proofs.Common.◌&&◌ (Rattle.std.proofs.Common.◌&&◌ o i)
          (Rattle.std.proofs.Common.◌&&◌ m n)) s) ≡ false → IsApart v u
      by_tests true true true true s a b c e = record { out = a; inn = b; mentioners = c }
      by_tests true true true false s a b c e = absurd cc
      by_tests true true false n s a b c e = absurd cc
      by_tests true false m n s a b c e = absurd cc
      by_tests false i m n s a b c e = absurd cc

abbrev pub present : List Half → ℕ
present hs = count_by (λ (h : Half). h.present) hs

pub apart-in : (v : PartView) (u : User) → is_vertex v u ≡ false → present (v.inn u) ≡ 0
apart-in v u e = ap present (none-empty (v.inn u) (apart v u e).inn)

pub apart-out : (v : PartView) (u : User) → is_vertex v u ≡ false → present (v.out u) ≡ 0
apart-out v u e = ap present (none-empty (v.out u) (apart v u e).out)

-- a number that is none where a test fails
where-so : (b : Bool) (n : ℕ) → (b ≡ false → n ≡ 0) → n ≡ cond b n 0
where-so true n none = refl
where-so false n none = none refl

pub count-law : CountLaw
count-law g v r seen counts = record {
  users = λ u. same u;
  tags = λ t. counts.tags t ∙ whole-in_use g v seen t;
  ins = λ u. counts.ins u ∙ (ap present (seen.inn u) ∙ where-so (has_user (vertices g) u) _
      (λ e. sym (ap present (seen.inn u)) ∙ apart-in v u (whole-vertex g v seen u ∙ e)));
  outs = λ u. counts.outs u ∙ (ap present (seen.out u) ∙ where-so (has_user (vertices g) u) _
      (λ e. sym (ap present (seen.out u)) ∙ apart-out v u (whole-vertex g v seen u ∙ e)));
  said = λ u. counts.said u ∙ (ap (λ (b : Bool). cond b (v.said u) 0) (same u)
      ∙ ap (λ (n : ℕ). cond (has_user (vertices g) u) n 0) (seen.said u));
  tag_users = λ t. counts.tag_users t ∙ sym (length_permutation (v.tag_users t) (tag_users g t) (seen.tag_users t));
} where
  same : (u : User) → has_user r.users u ≡ has_user (vertices g) u
  same u = counts.users.all u ∙ whole-vertex g v seen u
