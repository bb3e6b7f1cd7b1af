mod ReadNodes
