use Rattle.kt_column.proofs.least.is_shortest.Goals as goal

pub returns-in-Plain-clause-yes : goal.returns-in-Plain-clause-yes
returns-in-Plain-clause-yes c = rw c.in-Plain.is c.are_items_shortest.ensures.yes

pub returns-in-Plain-clause-no : goal.returns-in-Plain-clause-no
returns-in-Plain-clause-no c = rw c.in-Plain.is c.are_items_shortest.ensures.no

pub returns-in-Runs-clause-yes : goal.returns-in-Runs-clause-yes
returns-in-Runs-clause-yes c = rw c.in-Runs.is c.are_runs_shortest.ensures.yes

pub returns-in-Runs-clause-no : goal.returns-in-Runs-clause-no
returns-in-Runs-clause-no c = rw c.in-Runs.is c.are_runs_shortest.ensures.no

pub returns-in-Dictionary-clause-yes : goal.returns-in-Dictionary-clause-yes
returns-in-Dictionary-clause-yes c = rw c.in-Dictionary.is c.is_dictionary_shortest.ensures.yes

pub returns-in-Dictionary-clause-no : goal.returns-in-Dictionary-clause-no
returns-in-Dictionary-clause-no c = rw c.in-Dictionary.is c.is_dictionary_shortest.ensures.no

pub returns-in-Prefixes-clause-yes : goal.returns-in-Prefixes-clause-yes
returns-in-Prefixes-clause-yes c = rw c.in-Prefixes.is c.are_prefixes_shortest.ensures.yes

pub returns-in-Prefixes-clause-no : goal.returns-in-Prefixes-clause-no
returns-in-Prefixes-clause-no c = rw c.in-Prefixes.is c.are_prefixes_shortest.ensures.no
