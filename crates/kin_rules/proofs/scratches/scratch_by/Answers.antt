use Rattle.std.proofs.Common.{◌∙◌, ap, sym, subst, length, map, List, ℕ}
use Rattle.std.proofs.lemmas.List.{length-map}
use Rattle.kin_ids.specs.declared.ids.User.{User}
use Rattle.kin_graph.specs.Views.{AreVertices}
use Rattle.kin_rules.specs.Columns.{AreOf, column_of, columns_of}
use Rattle.kin_rules.specs.Nets.{hops_of, close_of}
use Rattle.kin_rules.specs.Ranks.{rank}
use Rattle.kin_rules.specs.Scratches.{column_by, in_seen, out_seen, users_seen}
use Rattle.kin_rules.proofs.ScratchReads.{all-used, result-is}
use Rattle.kin_rules.proofs.scratches.scratch_by.Goals as goal

pub invariant_of-result : goal.invariant_of-result
invariant_of-result g c =
    let v = g.V.View.seen c.args.view.now in
    let index = c.in_ok-index.ensures ∙ c.as_slice.ensures.value in
    let numbers = c.in_ok-numbers.ensures in
    let rows = c.in_ok-rows.ensures in
    let walks = c.in_ok-walks.ensures in
    record {
      users = c.in_ok-users.ensures.ascend;
      ins = ap length numbers.ins ∙ length-map c.in_ok-index.index (in_seen v) ∙ ap length index;
      outs = ap length numbers.outs ∙ length-map c.in_ok-index.index (out_seen v) ∙ ap length index;
      said = ap length numbers.said ∙ length-map c.in_ok-index.index v.said ∙ ap length index;
      ranks = numbers.long ∙ ap length index;
      tags = rows.ascend;
      tag_users = ap length rows.users ∙ length-map c.in_ok-rows.rows.tags.items (users_seen v);
      expos = rows.lists.long;
      in_use = all-used v c.in_ok-rows.rows.tags.items c.in_ok-rows.rows.tag_users.items rows.users rows.in_use;
      exposures = rows.lists.each;
      hops = subst (λ (n : ℕ). AreOf n (columns_of c.in_ok-walks.walks.hops.items)) (ap length index) walks.hops_users;
      close = subst (λ (n : ℕ). AreOf n (columns_of c.in_ok-walks.walks.close.items)) (ap length index) walks.close_users;
      landmarks = length-map c.in_ok-walks.walks.close.items column_of ∙ walks.count ∙ sym (length-map c.in_ok-walks.walks.hops.items column_of);
    }

pub returns-clause-values : goal.returns-clause-values
returns-clause-values g c =
    let v = g.V.View.seen c.args.view.now in
    let index = c.in_ok-index.ensures ∙ c.as_slice.ensures.value in
    let are : AreVertices (g.V.View.seen c.args.view.now) c.in_ok-users.users.items = record { ascend = c.in_ok-users.ensures.ascend; all = c.in_ok-users.ensures.vertices } in
    λ h whole. result-is h v whole c.args.landmarks.now _ (record {
      vertices = are;
      ins = c.in_ok-numbers.ensures.ins ∙ ap (map (in_seen v)) index;
      outs = c.in_ok-numbers.ensures.outs ∙ ap (map (out_seen v)) index;
      said = c.in_ok-numbers.ensures.said ∙ ap (map v.said) index;
      ranks = c.in_ok-numbers.ensures.ranks h whole ∙ ap (map (rank h)) index;
      tags_ascend = c.in_ok-rows.ensures.ascend;
      tags = c.in_ok-rows.ensures.in_use;
      tag_users = c.in_ok-rows.ensures.users;
      expos = c.in_ok-rows.ensures.expos h whole;
      hops = c.in_ok-walks.ensures.hops h whole ∙ ap (λ (us : List User). map (λ l. column_by (hops_of h l) us) c.args.landmarks.now) index;
      close = c.in_ok-walks.ensures.close h whole ∙ ap (λ (us : List User). map (λ l. column_by (close_of h l) us) c.args.landmarks.now) index;
    })
