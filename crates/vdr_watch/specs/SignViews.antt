-- What contracts see of a sign.
use Rattle.std.specs.Prelude.{option_copied}
use Rattle.vdr_alerts.specs.Views.{saying_value}
use Rattle.vdr_watch.specs.Signs.{Alarms, Beats, Says, Sign}
use Rattle.vdr_watch.specs.declared.sign.Sign.{Sign as Seen}
use Rattle.vdr_watch.specs.declared.sign.Sign.TheVariants.{Heartbeat, Alarm, Alert}

abbrev pub sign_value : Seen → Sign
sign_value (Heartbeat beat) = Beats beat
sign_value (Alarm alarm text) = Alarms alarm (option_copied text)
sign_value (Alert saying) = Says (saying_value saying)
