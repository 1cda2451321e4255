use Rattle.kin_script.proofs.Texts.{one_text}
use Rattle.kin_script.proofs.schedules.text_laws.Goals as goal

pub returns : goal.returns
returns c = one_text
