use Rattle.bitset.proofs.Sets.{has_none, has-only, has-below, has_and, has_or, has-without, same_word, within_each, within_from, apart_each, apart_from, count-members, first_lowest, ones_members}
use Rattle.std.proofs.Common.{refl}
use Rattle.bitset.specs.Laws.{SetLaws}
use Rattle.bitset.proofs.set_laws_hold.Goals as goal

pub returns : goal.returns
returns c = record { laws = laws; answer = refl }
  where
    laws : SetLaws
    laws =
        record {
          none = has_none;
          one = has-only;
          first = has-below;
          common = has_and;
          joined = has_or;
          taken_away = has-without;
          same_members = same_word;
          within_members = within_each;
          members_within = within_from;
          apart_members = apart_each;
          members_apart = apart_from;
          each_once = count-members;
          lowest_first = first_lowest;
          counted = ones_members;
        }
