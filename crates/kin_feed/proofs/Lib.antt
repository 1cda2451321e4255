mod AllRows
mod RowSteps
mod BadCounts
mod Fields
mod ItemLists
mod Small
