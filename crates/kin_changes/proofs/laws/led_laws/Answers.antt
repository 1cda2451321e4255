use Rattle.kin_changes.proofs.Mentioned.{mentioners-law}
use Rattle.kin_changes.proofs.Wholes.{whole-law}
use Rattle.kin_changes.proofs.Led.{led-law}
use Rattle.kin_changes.proofs.laws.led_laws.Goals as goal

pub returns : goal.returns
returns c = record { mentioners = mentioners-law; whole = whole-law; led = led-law }
