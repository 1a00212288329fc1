-- What contracts see of rules for many floods: their table of offsets.
use Rattle.srs.specs.Kick.{Table}
use Rattle.srs.specs.Rules.{table_of}
use Rattle.reach.specs.declared.flood_rules.FloodRules.{FloodRules}

unfoldable pub flood_table : FloodRules → Table
flood_table known = table_of known.rules
