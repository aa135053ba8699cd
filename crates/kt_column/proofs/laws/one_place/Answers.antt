use Rattle.kt_column.proofs.OnePlace.{block_once_refused, refused_block, column_once_refused, refused_column, rising_once_refused}
use Rattle.kt_column.proofs.laws.one_place.Goals as goal

pub returns-clause-one : goal.returns-clause-one
returns-clause-one c = block_once_refused

pub returns-clause-none : goal.returns-clause-none
returns-clause-none c = λ form n bytes at cs front rest fits f s count is. refused_block form n bytes at cs front rest fits f s count is

pub returns-clause-none_column : goal.returns-clause-none_column
returns-clause-none_column c = λ form rows bytes at cs front rest fits f s count is. refused_column form rows bytes at cs front rest fits f s count is

pub returns-clause-column : goal.returns-clause-column
returns-clause-column c = column_once_refused

pub returns-clause-rising : goal.returns-clause-rising
returns-clause-rising c = rising_once_refused
