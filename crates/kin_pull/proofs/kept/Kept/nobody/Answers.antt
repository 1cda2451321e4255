use Rattle.std.proofs.Common.{◌∙◌, ap, length}
use Rattle.std.proofs.lemmas.List.{length-map}
use Rattle.kin_ids.specs.Users.{user_cmp}
use Rattle.kin_rules.proofs.ResultReads.{sorted-nil}
use Rattle.kin_pull.proofs.kept.Kept.nobody.Goals as goal

pub returns-clause-kept : goal.returns-clause-kept
returns-clause-kept g c = record {
  ascend = sorted-nil user_cmp;
  layers = length-map c.in_ok-no_rows.field-0.items (λ r. r.items) ∙ c.in_ok-no_rows.ensures.long;
  rows = λ j lt. ap (λ row. length row) (c.in_ok-no_rows.ensures.none j);
  facts = ap (λ xs. length xs) c.new.ensures.items;
  told = ap (λ xs. length xs) c.new-2.ensures.items;
  low = ap (λ xs. length xs) c.new-3.ensures.items;
}
