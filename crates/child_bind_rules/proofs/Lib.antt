mod ChildFaultless
mod PairCols
mod ChildSoundness
mod BoundChildren
