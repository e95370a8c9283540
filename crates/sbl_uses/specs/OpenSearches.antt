-- What the code's value of a search stands for.
use Rattle.sbl_uses.specs.Moments as spec
use Rattle.sbl_uses.specs.declared.moment.OpenSearch.{OpenSearch}

abbrev pub view_search : OpenSearch → spec.OpenSearch
view_search s = record { mode = s.mode; ahead = s.ahead.items }
