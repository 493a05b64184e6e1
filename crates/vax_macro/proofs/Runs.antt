-- The lemmas of std on the longest front that passes a test.
use Rattle.std.proofs.lemmas.List.Sums.{prefix_len-drop_yes, prefix_len-drop_no, prefix_len-drop_all}

pub ruleset runs = (prefix_len-drop_yes, prefix_len-drop_no, prefix_len-drop_all)
